-- Laws of the calls that send a datagram of the agent's own.
use Rattle.std.specs.Prelude.{None, Option, Some}
use Prim.Native.Nat.{ℕ, ◌≤◌}
use mathlib.Core.Path.{◌≡◌, refl, sym, ◌∙◌}
use mathlib.Core.List.{List, [], ◌∷◌}
use mathlib.Core.Bool.{Bool, true, false, not, ◌&&◌, true≢false}
use native.Mathlib.Omega.{arith}
use borrow.Author.Tests.{ne_eqb}
use lib.Dec.{eqb}
use lib.ListN.{length}
use lib.Seq.{sets}
use Rattle.buffer.specs.Put.{Put}
use Rattle.buffer.proofs.Puts.{appended-put, appended-all}
use Rattle.calls.specs.Own.{Sending, unsent, with_registration, sending, sending_if, round_of, waited, backoff_in, rest_in, is_positive, reports, report_of}
use Rattle.outgoing.specs.Sent.{registration_sent, report_sent}
use Rattle.outgoing.specs.declared.Report.{Report}
use Rattle.outgoing.specs.declared.Report.TheVariants.{Primary, Heartbeat}
use Rattle.outgoing.proofs.Laws.{registration-short, report-short}
use Rattle.refusal.specs.Refusal.{own_refusal}
use Rattle.refusal.proofs.Laws.{own_room}
use Rattle.registration.specs.Backoff.{backoff_of, rest_of}
use Rattle.registration.specs.Round.{id_taken, round_taken}
use Rattle.reply.specs.declared.Answer.{Answer}
use Rattle.reply.proofs.Laws.{sent-appended, sent-silent}
use Rattle.schedule.specs.declared.Length.{Length}
use Rattle.schedule.specs.declared.Point.{Point}
use Rattle.state.specs.declared.Registration.{Registration}
use Rattle.state.specs.declared.State.{State}
use Rattle.rounds.specs.Rounds.{SentAs, Rounded}
use Rattle.rounds.specs.declared.RoundAnswer.{RoundAnswer}

-- what is sent, by the refusal and by what there is to send
module _ (s : State) (r : Registration) where
  sending-refused : (n : ℕ) (bs : List ℕ) → (n ≡ 0 → ⊥) → sending_if s r n bs ≡ unsent n s
  sending-refused n bs h = rw (ne_eqb n 0 h)

  sending-none : (n : ℕ) (bs : List ℕ) → n ≡ 0 → length bs ≡ 0 → sending_if s r n bs ≡ unsent 10 s
  unfolding sending
  sending-none n [] h k = rw h
  sending-none n (b ∷ bs) h k = absurd (omega arith)

  sending-some : (n : ℕ) (bs : List ℕ) → n ≡ 0 → (length bs ≡ 0 → ⊥) → sending_if s r n bs ≡ record { outcome = 0; sent = bs; state = with_registration s r }
  unfolding sending
  sending-some n [] h k = absurd (k refl)
  sending-some n (b ∷ bs) h k = rw h

-- a datagram of no bytes leaves the output as it was
module _ {out bs left : List ℕ} {n : ℕ} (p : Put out 0 bs left n) (h : length bs ≤ length out) where
  put-size : n ≡ length bs
  put-size = let a = appended-all (appended-put p) (omega arith) in omega (arith, a.1)

  put-empty : n ≡ 0 → length bs ≡ 0
  put-empty z = sym put-size ∙ z

  put-filled : (n ≡ 0 → ⊥) → length bs ≡ 0 → ⊥
  put-filled f z = f (put-size ∙ z)

  put_same : n ≡ 0 → left ≡ out
  put_same z = (appended-all (appended-put p) (omega arith)).0 ∙ none bs (put-empty z)
    where
      none : (l : List ℕ) → length l ≡ 0 → sets out 0 l ≡ out
      none [] k = refl
      none (b ∷ l) k = absurd (omega arith)

-- what a refused call leaves, and what one leaves that sends
module _ (e : Sending) {out left : List ℕ} where
  as-unsent : {n : ℕ} {s : State} {r : Answer} → e ≡ unsent n s → r ≡ record { outcome = n; len = 0; state = s } → left ≡ out → SentAs e out r left
  as-unsent q k l = rw (q, l) (sent-silent k)

  as-sent : {bs : List ℕ} {t : State} {n : ℕ} {r : Answer} → e ≡ record { outcome = 0; sent = bs; state = t } → r ≡ record { outcome = 0; len = n; state = t }
      → Put out 0 bs left n → length bs ≤ 1280 → 1280 ≤ length out → SentAs e out r left
  as-sent q k p h g = rw (q, k) (sent-appended refl refl (appended-put p) h g)

-- a round gives its waits where it is sent
abbrev pub no_round : ℕ → State → RoundAnswer
no_round n s = record { answer = record { outcome = n; len = 0; state = s }; backoff = record { 0 = 0 }; rest = record { 0 = 0 } }

abbrev pub sent_round : State → ℕ → ℕ → RoundAnswer
sent_round s n random =
    record {
      answer = record { outcome = 0; len = n; state = with_registration s (round_taken s.device s.registration) };
      backoff = backoff_in s random;
      rest = rest_in s random;
    }

pub round_is : (s : State) (n random : ℕ) {a : Answer} {b c : Length} {t : Registration} → t ≡ round_taken s.device s.registration
    → a ≡ record { outcome = 0; len = n; state = with_registration s t } → b ≡ backoff_of s.registration.interval random
    → c ≡ rest_of s.registration.interval b → record { answer = a; backoff = b; rest = c } ≡ sent_round s n random
unfolding backoff_in rest_in
round_is s n random e k p q = rw (k, e, q, p)

module _ (s : State) (random : ℕ) {out : List ℕ} {r : RoundAnswer} where
  rounded-unsent : (e : Sending) {n : ℕ} {left : List ℕ} → e ≡ unsent n s → (n ≡ 0 → ⊥) → r ≡ no_round n s → left ≡ out → Rounded s random e out r left
  unfolding waited
  rounded-unsent e {n} q h k l =
      record {
        answer = as-unsent e q (rw k) l;
        backoff = rw (q, k, ne_eqb n 0 h);
        rest = rw (q, k, ne_eqb n 0 h);
      }

  rounded-sent : (e : Sending) {bs left : List ℕ} {n : ℕ}
      → e ≡ record { outcome = 0; sent = bs; state = with_registration s (round_taken s.device s.registration) } → r ≡ sent_round s n random
      → Put out 0 bs left n → length bs ≤ 1280 → 1280 ≤ length out → Rounded s random e out r left
  unfolding waited
  rounded-sent e q k p h g =
      record {
        answer = as-sent e q (rw k) p h g;
        backoff = rw (q, k);
        rest = rw (q, k);
      }

-- where no refusal applies, the output has room
unrefused : (out : ℕ) (store : List ℕ) (due : Bool) (number n : ℕ) → n ≡ own_refusal out store due number → n ≡ 0 → 1280 ≤ out
unrefused out store due number n w z = own_room out store due number (sym w ∙ z)

within : (m n : ℕ) → m ≤ 1280 → 1280 ≤ n → m ≤ n
within m n h k = omega arith

-- a round
module _ (s : State) (out store : List ℕ) (time : Point) (random : ℕ) {n : ℕ} (w : n ≡ own_refusal (length out) store (not s.registration.accepted) 8) {r : RoundAnswer} where
  pub round-refused : (n ≡ 0 → ⊥) → r ≡ no_round n s → Rounded s random (round_of s (length out) store time) out r out
  unfolding round_of
  round-refused h k =
      rounded-unsent s random _ (rw (← w) (sending-refused s _ n (registration_sent s store time) h)) h k refl

  module _ (z : n ≡ 0) {left : List ℕ} {len : ℕ} (p : Put out 0 (registration_sent s store time) left len) where
    pub round-10 : len ≡ 0 → r ≡ no_round 10 s → Rounded s random (round_of s (length out) store time) out r left
    unfolding round_of
    round-10 h k =
        let f = within (length (registration_sent s store time)) (length out) (registration-short s store time) (unrefused (length out) store (not s.registration.accepted) 8 n w z) in
        rounded-unsent s random _ (rw (← w) (sending-none s _ n (registration_sent s store time) z (put-empty p f h))) (λ q. absurd (omega arith)) k (put_same p f h)

    pub round-sent : (len ≡ 0 → ⊥) → r ≡ sent_round s len random → Rounded s random (round_of s (length out) store time) out r left
    unfolding round_of
    round-sent h k =
        let g = unrefused (length out) store (not s.registration.accepted) 8 n w z in
        let f = within (length (registration_sent s store time)) (length out) (registration-short s store time) g in
        rounded-sent s random _ (rw (← w) (sending-some s _ n (registration_sent s store time) z (put-filled p f h))) k p (registration-short s store time) g

-- whether a report is due
module _ (i : Option Length) where
  pub positive-none : i ≡ None → false ≡ is_positive i
  unfolding is_positive
  positive-none e = rw e

  pub positive-some : (l : Length) → i ≡ Some l → not (eqb l.0 0) ≡ is_positive i
  unfolding is_positive
  positive-some l e = rw e

all_true : (a b : Bool) {c d : Bool} → a ≡ true → b ≡ true → d ≡ c → d ≡ (a && (b && c))
all_true true true h g e = e
all_true true false h g e = absurd (true≢false (sym g))
all_true false b h g e = absurd (true≢false (sym h))

module _ (s : State) where
  pub due-unbound : s.assigned.in_session ≡ false → false ≡ reports s Primary
  unfolding reports
  due-unbound h = rw h

  module _ (h : s.assigned.in_session ≡ true) where
    pub due-unaccepted : s.registration.accepted ≡ false → false ≡ reports s Primary
    unfolding reports
    due-unaccepted g = rw (h, g)

    pub due-by : s.registration.accepted ≡ true → {b : Bool} → b ≡ is_positive s.assigned.interval → b ≡ reports s Primary
    unfolding reports
    due-by g k = all_true s.assigned.in_session s.registration.accepted h g k

module _ (s : State) (which : Report) where
  pub reports-primary : which ≡ Primary → {b : Bool} → b ≡ reports s Primary → b ≡ reports s which
  reports-primary e k = rw e k

  pub reports-heartbeat : which ≡ Heartbeat → false ≡ reports s which
  unfolding reports
  reports-heartbeat e = rw e

-- a report
module _ (s : State) (out store : List ℕ) (time : Point) (which : Report) {due : Bool} (d : due ≡ reports s which) {n : ℕ} (w : n ≡ own_refusal (length out) store due 9) {r : Answer} where
  pub report-refused : (n ≡ 0 → ⊥) → r ≡ record { outcome = n; len = 0; state = s } → SentAs (report_of s (length out) store time which) out r out
  unfolding report_of
  report-refused h k = as-unsent _ (rw (← d, ← w) (sending-refused s _ n (report_sent s store time) h)) k refl

  module _ (z : n ≡ 0) {left : List ℕ} {len : ℕ} (p : Put out 0 (report_sent s store time) left len) where
    pub report-10 : len ≡ 0 → r ≡ record { outcome = 10; len = 0; state = s } → SentAs (report_of s (length out) store time which) out r left
    unfolding report_of
    report-10 h k =
        let f = within (length (report_sent s store time)) (length out) (report-short s store time) (unrefused (length out) store due 9 n w z) in
        as-unsent _ (rw (← d, ← w) (sending-none s _ n (report_sent s store time) z (put-empty p f h))) k (put_same p f h)

    pub report-sent : {t : Registration} → (len ≡ 0 → ⊥) → t ≡ id_taken s.registration → r ≡ record { outcome = 0; len = len; state = with_registration s t }
        → SentAs (report_of s (length out) store time which) out r left
    unfolding report_of
    report-sent h e k =
        let g = unrefused (length out) store due 9 n w z in
        let f = within (length (report_sent s store time)) (length out) (report-short s store time) g in
        as-sent _ (rw (← d, ← w) (sending-some s _ n (report_sent s store time) z (put-filled p f h))) (rw e at k) p (report-short s store time) g
