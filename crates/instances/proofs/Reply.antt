-- What `specs/Reply.antt` states of a reply's length.
use Prim.Native.Nat.{ℕ, suc, ◌+◌}
use mathlib.Core.Path.{◌≡◌, refl, sym, ap, ◌∙◌}
use mathlib.Core.List.{[], ◌∷◌}
use mathlib.Core.Bool.{Bool}
use native.Mathlib.Omega.{arith}
use borrow.Author.Tests.{lt-ltb, le-ltb, ltb-true, ltb-false}
use lib.Dec.{ltb}
use lib.ListN.{length}
use Rattle.buffer.specs.Pick.{pick}
use Rattle.buffer.proofs.Tests.{split}
use Rattle.get.specs.Get.{forbidden, content}
use Rattle.reply.specs.Reply.{reply_of}
use Rattle.instances.specs.Reply.{SameLength, ContentFits}

pub same-length : SameLength
unfolding reply_of
same-length code id code′ id′ [] = refl
same-length code id code′ id′ (b ∷ bs) = refl

-- behind a head of 7 bytes
behind : (n m : ℕ) → m ≡ 7 + n → ltb 1273 n ≡ ltb 1280 m
behind n m h =
    split (ltb 1273 n)
    (λ e. let l = ltb-true 1273 n e in e ∙ sym (lt-ltb 1280 m (omega arith)))
    (λ e. let l = ltb-false 1273 n e in e ∙ sym (le-ltb 1280 m (omega arith)))

pub content-fits : ContentFits
unfolding content reply_of
content-fits [] = refl
content-fits (b ∷ bs) =
    ap (λ (t : Bool). pick t forbidden (record { code = 69; body = b ∷ bs }))
    (behind (length (b ∷ bs)) (suc (suc (suc (suc (suc (suc (suc (length (b ∷ bs))))))))) (omega arith))
