-- Laws of sending what was delayed.
use Rattle.std.specs.Prelude.{None, Some}
use Prim.Native.Nat.{ℕ, ◌≤◌}
use mathlib.Core.Path.{◌≡◌, refl, sym, ap, ◌∙◌}
use mathlib.Core.List.{List, [], ◌∷◌}
use mathlib.Core.Bool.{Bool, true, false, not}
use native.Mathlib.Omega.{arith}
use borrow.Author.Tests.{ne_eqb}
use lib.Dec.{eqb}
use lib.ListN.{length, take}
use Rattle.buffer.specs.Put.{Put}
use Rattle.buffer.proofs.Puts.{appended-put, appended-all}
use Rattle.calls.specs.Datagram.{with_waiting}
use Rattle.calls.specs.Due.{undispatched, records_of, dispatched, datagram_for, dispatch_of, answer_due}
use Rattle.calls.specs.Own.{with_registration}
use Rattle.decimal.specs.Ids.{no_ids, held}
use Rattle.decimal.specs.declared.Ids.{Ids}
use Rattle.get.specs.Get.{GotBy, index_got, record_got, records_got}
use Rattle.get.specs.declared.Got.{Got}
use Rattle.outgoing.specs.Sent.{answer_sent}
use Rattle.outgoing.proofs.Laws.{answer-short}
use Rattle.refusal.specs.Refusal.{own_refusal}
use Rattle.refusal.proofs.Laws.{own_room}
use Rattle.registration.specs.Round.{id_taken}
use Rattle.request.specs.Options.{parts, asked_of}
use Rattle.schedule.specs.declared.Point.{Point}
use Rattle.state.specs.Setup.{url_of}
use Rattle.state.specs.declared.Delayed.{Delayed}
use Rattle.state.specs.declared.Registration.{Registration}
use Rattle.state.specs.declared.State.{State}
use Rattle.state.specs.declared.What.{What}
use Rattle.state.specs.declared.What.TheVariants.{Index, Record, Records, Responses}
use Rattle.waiting.specs.Waiting.{url_in, held_in, due_of}
use Rattle.waiting.specs.declared.Due.{Due}
use Rattle.due.specs.Dispatched.{Dispatched}
use Rattle.due.specs.declared.DueAnswer.{DueAnswer}
use Rattle.buffer.specs.declared.text.Text.{Text}

abbrev pub silent_as : ℕ → State → DueAnswer
silent_as n s = record { outcome = n; len = 0; url = url_of []; state = s }

-- the URL of a silent answer is empty
pub silent-is : (n : ℕ) (s : State) {text : List ℕ} {u : Text 128} → text ≡ [] → u ≡ url_of text → record { outcome = n; len = 0; url = u; state = s } ≡ silent_as n s
silent-is n s e k = rw (k, e)

-- the records of an answer stand elsewhere
pub put-records : (s : State) (time : Point) (named : Bool) {part whole out left : List ℕ} {n : ℕ} → part ≡ whole
    → Put out 0 (answer_sent s time named part) left n → Put out 0 (answer_sent s time named whole) left n
put-records s time named e p = rw (← e) p

-- the records of an answer, by what it is
module _ (s : State) (store : List ℕ) (time : Point) (text : List ℕ) {w : What} {part : List ℕ} where
  of-index : w ≡ Index → part ≡ (index_got s store time).body → part ≡ records_of s store time text w
  unfolding records_of
  of-index e k = rw e k

  of-record : {id : ℕ} → w ≡ Record id → part ≡ (record_got s store time id).body → part ≡ records_of s store time text w
  unfolding records_of
  of-record e k = rw e k

  of-records : {ids : Ids} → w ≡ Records → ids ≡ asked_of no_ids (parts text) → part ≡ (records_got s store time (held ids)).body → part ≡ records_of s store time text w
  unfolding records_of
  of-records e h k = rw e (rw h at k)

  of-responses : w ≡ Responses → part ≡ text → part ≡ records_of s store time text w
  unfolding records_of
  of-responses e k = rw e k

-- its datagram is put with them
module _ (s : State) (answers store : List ℕ) (time : Point) (d : Delayed) {out left : List ℕ} {n : ℕ} where
  for-any : {part : List ℕ} → part ≡ records_of s store time (held_in d answers) d.what → Put out 0 (answer_sent s time (not (eqb d.url 0)) part) left n
      → Put out 0 (datagram_for s answers store time d) left n
  unfolding datagram_for
  for-any e p = put-records s time _ e p

  module _ {g : Got} {body : List ℕ} where
    pub for-index : d.what ≡ Index → GotBy (index_got s store time) g body
        → Put out 0 (answer_sent s time (not (eqb d.url 0)) (take g.end body)) left n → Put out 0 (datagram_for s answers store time d) left n
    for-index e h p = for-any (of-index s store time _ e h.bytes) p

    pub for-record : {id : ℕ} → d.what ≡ Record id → GotBy (record_got s store time id) g body
        → Put out 0 (answer_sent s time (not (eqb d.url 0)) (take g.end body)) left n → Put out 0 (datagram_for s answers store time d) left n
    for-record e h p = for-any (of-record s store time _ e h.bytes) p

    pub for-records : {text : List ℕ} {ids : Ids} → d.what ≡ Records → text ≡ held_in d answers → ids ≡ asked_of no_ids (parts text)
        → GotBy (records_got s store time (held ids)) g body
        → Put out 0 (answer_sent s time (not (eqb d.url 0)) (take g.end body)) left n → Put out 0 (datagram_for s answers store time d) left n
    for-records e t k h p = for-any (of-records s store time _ e (rw t at k) h.bytes) p

  pub for-responses : {text : List ℕ} → d.what ≡ Responses → text ≡ held_in d answers → Put out 0 (answer_sent s time (not (eqb d.url 0)) text) left n
      → Put out 0 (datagram_for s answers store time d) left n
  for-responses e t p = for-any (of-responses s store time _ e t) p

datagram-short : (s : State) (answers store : List ℕ) (time : Point) (d : Delayed) → length (datagram_for s answers store time d) ≤ 1280
unfolding datagram_for
datagram-short s answers store time d = answer-short s time _ _

-- nothing is written
unsent : (n : ℕ) (s : State) (out : List ℕ) {r : DueAnswer} → r ≡ silent_as n s → Dispatched (undispatched n s) out r out
unsent n s out k = rw k (record { outcome = refl; len = refl; url = refl; state = refl; bytes = refl; small = omega arith })

-- what was put is sent, if it is something
module _ (s : State) (url : List ℕ) {out left : List ℕ} {n : ℕ} (g : 1280 ≤ length out) where
  sent-none : (bs : List ℕ) {r : DueAnswer} → Put out 0 bs left n → length bs ≤ 1280 → n ≡ 0 → r ≡ silent_as 0 s → Dispatched (dispatched s url bs) out r left
  unfolding dispatched
  sent-none [] p h z k = rw (appended-all (appended-put p) (omega arith)).0 (unsent 0 s out k)
  sent-none (b ∷ bs) p h z k = let a = appended-all (appended-put p) (omega arith) in absurd (omega (arith, a.1))

  sent-some : (bs : List ℕ) {t : Registration} {text : List ℕ} {u : Text 128} → Put out 0 bs left n → length bs ≤ 1280 → (n ≡ 0 → ⊥) → t ≡ id_taken s.registration
      → text ≡ url → u ≡ url_of text → Dispatched (dispatched s url bs) out (record { outcome = 0; len = n; url = u; state = with_registration s t }) left
  unfolding dispatched
  sent-some [] p h f e x y = let a = appended-all (appended-put p) (omega arith) in absurd (f (omega (arith, a.1)))
  sent-some (b ∷ bs) p h f e x y =
      let a = appended-all (appended-put p) (omega arith) in
      record {
        outcome = refl;
        len = omega (arith, a.1);
        url = y ∙ ap url_of x;
        state = ap (with_registration s) e;
        bytes = a.0;
        small = omega (arith, a.1);
      }

-- an answer's datagram was put
module _ (s t : State) (answers store : List ℕ) (time : Point) (d : Delayed) {out left : List ℕ} {n : ℕ} (p : Put out 0 (datagram_for s answers store time d) left n)
    (g : 1280 ≤ length out) where
  pub send-none : {r : DueAnswer} → n ≡ 0 → r ≡ silent_as 0 t
      → Dispatched (dispatched t (url_in d answers) (datagram_for s answers store time d)) out r left
  send-none z k = sent-none t (url_in d answers) g (datagram_for s answers store time d) p (datagram-short s answers store time d) z k

  pub send-some : {i : Registration} {text : List ℕ} {u : Text 128} → (n ≡ 0 → ⊥) → i ≡ id_taken t.registration → text ≡ url_in d answers → u ≡ url_of text
      → Dispatched (dispatched t (url_in d answers) (datagram_for s answers store time d)) out
      (record { outcome = 0; len = n; url = u; state = with_registration t i }) left
  send-some f e x y = sent-some t (url_in d answers) g (datagram_for s answers store time d) p (datagram-short s answers store time d) f e x y

-- the call: refused, nothing due, or what is due is sent
module _ (s : State) (answers out store : List ℕ) (time : Point) {n : ℕ} (w : n ≡ own_refusal (length out) store true 0) {r : DueAnswer} where
  pub due-refused : (n ≡ 0 → ⊥) → r ≡ silent_as n s → Dispatched (answer_due s answers (length out) store time) out r out
  unfolding answer_due
  due-refused h k = rw (← w, ne_eqb n 0 h) (unsent n s out k)

  module _ (z : n ≡ 0) where
    pub due-none : due_of s.waiting time ≡ None → r ≡ silent_as 0 s → Dispatched (answer_due s answers (length out) store time) out r out
    unfolding dispatch_of answer_due
    due-none e k = rw (← w, z, e) (unsent 0 s out k)

    pub due-some : (due : Due) {left : List ℕ} → due_of s.waiting time ≡ Some due
        → (1280 ≤ length out → Dispatched (dispatched (with_waiting s due.left) (url_in due.answer answers) (datagram_for s answers store time due.answer)) out r left)
        → Dispatched (answer_due s answers (length out) store time) out r left
    unfolding dispatch_of answer_due
    due-some due e f = rw (← w, z, e) (f (own_room (length out) store true 0 (sym w ∙ z)))
