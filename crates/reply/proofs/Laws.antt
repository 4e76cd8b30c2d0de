-- Laws of replies: what each test of the code says of the definitions, and what fits.
use Prim.Native.Nat.{ℕ, ◌≤◌}
use mathlib.Core.Path.{◌≡◌, refl}
use mathlib.Core.List.{List, [], ◌∷◌, ◌++◌}
use mathlib.Core.Bool.{true, false}
use native.Mathlib.Omega.{arith}
use borrow.Author.Tests.{ne_eqb}
use lib.Dec.{eqb}
use lib.ListN.{length, length-append}
use Rattle.buffer.specs.Put.{Put, Appended}
use Rattle.buffer.proofs.Puts.{appended-put, appended-none, appended-join, appended-all}
use Rattle.buffer.proofs.Tests.{pick-both}
use Rattle.coap.specs.Write.{reply_head}
use Rattle.state.specs.declared.State.{State}
use Rattle.reply.specs.Reply.{reply_of, reply_to, Sent}
use Rattle.reply.specs.declared.Answer.{Answer}

-- the head alone, or the head and the payload behind it
module _ (code id : ℕ) where
  reply-empty : (body : List ℕ) → length body ≡ 0 → reply_of code id body ≡ reply_head false code id
  unfolding reply_of
  reply-empty [] h = refl
  reply-empty (b ∷ bs) h = absurd (omega arith)

  reply-filled : (body : List ℕ) → (length body ≡ 0 → ⊥) → reply_of code id body ≡ reply_head true code id ++ body
  unfolding reply_of
  reply-filled [] h = absurd (h refl)
  reply-filled (b ∷ bs) h = refl

  pub put-empty : (body : List ℕ) {out left : List ℕ} {n : ℕ} → length body ≡ 0 → Put out 0 (reply_head false code id) left n
      → Appended out 0 (reply_of code id body) left n
  put-empty body z p = rw (reply-empty body z) (appended-put p)

  pub put-filled : (body : List ℕ) {out mid left : List ℕ} {m n : ℕ} → (length body ≡ 0 → ⊥) → Put out 0 (reply_head true code id) mid m
      → Put mid m body left n → Appended out 0 (reply_of code id body) left n
  put-filled body z p q =
      rw (reply-filled body z) (appended-join (reply_head true code id) body (appended-put p) (appended-put q))

-- by the type of what is answered
module _ (kind : ℕ) {out : List ℕ} where
  pub reply-con : (code id : ℕ) (body : List ℕ) {left : List ℕ} {n : ℕ} → kind ≡ 0 → Appended out 0 (reply_of code id body) left n
      → Appended out 0 (reply_to kind code id body) left n
  unfolding reply_to
  reply-con code id body h p = rw h p

  pub reply-non : (code id : ℕ) (body : List ℕ) → (kind ≡ 0 → ⊥) → Appended out 0 (reply_to kind code id body) out 0
  unfolding reply_to
  reply-non code id body h = rw (ne_eqb kind 0 h) (appended-none out 0 (omega arith))

-- a reply of at most 1,273 bytes of payload has at most 1,280
reply-of-short : (code id : ℕ) (body : List ℕ) → length body ≤ 1273 → length (reply_of code id body) ≤ 1280
unfolding reply_of
reply-of-short code id [] h = omega arith
reply-of-short code id (b ∷ bs) h = omega (arith, length-append (reply_head true code id) (b ∷ bs))

pub reply-short : (kind code id : ℕ) (body : List ℕ) → length body ≤ 1273 → length (reply_to kind code id body) ≤ 1280
unfolding reply_to
reply-short kind code id body h =
    pick-both (λ (bs : List ℕ). length bs ≤ 1280) (eqb kind 0) (reply_of code id body) [] (λ e. reply-of-short code id body h) (λ e. omega arith)

-- what is put at the front of an output that has room is sent
module _ {outcome : ℕ} {s : State} {out : List ℕ} {r : Answer} where
  pub sent-appended : {bs left : List ℕ} → r.outcome ≡ outcome → r.state ≡ s → Appended out 0 bs left r.len → length bs ≤ 1280
      → 1280 ≤ length out → Sent outcome bs s out r left
  sent-appended {bs} e f p h g =
      let a = appended-all p (omega arith) in
      let z : r.len ≡ length bs = omega (arith, a.1) in
      record { outcome = e; len = z; state = f; bytes = a.0; small = omega arith }

  pub sent-silent : r ≡ record { outcome = outcome; len = 0; state = s } → Sent outcome [] s out r out
  sent-silent e = rw e (record { outcome = refl; len = refl; state = refl; bytes = refl; small = omega arith })
