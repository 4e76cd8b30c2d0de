-- Text that is written: what may be there or not, and ids in decimal.
use Prim.Native.Nat.{ℕ}
use mathlib.Core.Path.{◌≡◌, refl, sym, ◌∙◌}
use mathlib.Core.List.{List, [], ◌∷◌, map}
use mathlib.Core.Bool.{Bool, true, false, true≢false}
use native.Mathlib.Omega.{arith}
use borrow.Author.Tests.{ltb-false}
use lib.Dec.{ltb}
use Rattle.buffer.proofs.Tests.{split}
use Rattle.decimal.specs.Decimal.{IsId, all_digits, decimal}
use Rattle.decimal.proofs.Theorems.{all-written}
use Rattle.protobuf.specs.Each.{IfAny, Each}
use Rattle.protobuf.specs.Given.{if_given}
use Rattle.utf8.specs.Utf8.{utf8_from, is_utf8, IsText}
use Rattle.utf8.proofs.FormLaws.{utf8-single}

pub given-text : (given : Bool) (bs : List ℕ) → IsText bs → IfAny IsText (if_given given bs)
given-text true bs h = h
given-text false bs h = tt

digits-text : (s : List ℕ) → all_digits s ≡ true → IsText s
unfolding all_digits is_utf8 utf8_from
digits-text [] h = refl
digits-text (b ∷ s) h =
    split (ltb b 48) (λ l. absurd (true≢false (sym (rw l at h))))
    (λ l. split (ltb 57 b) (λ m. absurd (true≢false (sym (rw (l, m) at h))))
    (λ m. let k = ltb-false 57 b m in utf8-single b s (omega arith) ∙ digits-text s (rw (l, m) at h)))

decimal-text : (id : ℕ) → IsId id → IsText (decimal id)
unfolding decimal all_digits
decimal-text id h = digits-text (decimal id) (all-written 9 id [] (omega arith))

pub decimals-text : (ids : List ℕ) → Each IsId ids → Each IsText (map decimal ids)
decimals-text [] h = tt
decimals-text (id ∷ ids) h = (decimal-text id h.0, decimals-text ids h.1)
