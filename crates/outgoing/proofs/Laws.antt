-- Laws of own datagrams: their pieces one behind the other, and what is sent where they fit.
use Prim.Native.Nat.{ℕ, ◌+◌, ◌≤◌, ◌<◌}
use mathlib.Core.Path.{◌≡◌, refl, sym, ◌∙◌}
use mathlib.Core.List.{List, [], ◌++◌}
use mathlib.Core.Bool.{Bool, true, false, not, true≢false}
use native.Mathlib.Omega.{arith}
use borrow.Author.Tests.{not-true, not-false, ltb-true, ltb-false, lt-ltb, le-ltb, eq-eqb, ne_eqb}
use lib.Dec.{eqb, ltb}
use lib.ListN.{length, take}
use Rattle.buffer.specs.Pick.{pick}
use Rattle.buffer.specs.Put.{Put, Appended, after}
use Rattle.buffer.proofs.Puts.{put-fits, appended-put, appended-join, appended-all, appended-front}
use Rattle.buffer.proofs.Tests.{pick-both}
use Rattle.buffer.proofs.Stretches.{fits-true, fits-false}
use Rattle.coap.specs.Write.{registration_head, report_head, answer_head}
use Rattle.encode.specs.Write.{session_record, time_record}
use Rattle.decimal.specs.Ids.{held}
use Rattle.schedule.specs.declared.Point.{Point}
use Rattle.state.specs.Groups.{held_pairs}
use Rattle.state.specs.declared.Assigned.{Assigned}
use Rattle.state.specs.declared.State.{State}
use Rattle.own.specs.Own.{report_shown, groups_shown, own_records}
use Rattle.outgoing.specs.Sent.{sendable, session_shown, device_id, known_to, registration_sent, report_sent, head_of, answer_sent}
use Rattle.copy.specs.Shown.{copies, shown_all}
use Rattle.copy.specs.declared.Choice.TheVariants.{Only, Except}

-- the session, where one is held
module _ {out : List ℕ} {at : ℕ} (a : Assigned) where
  pub session-not : {left : List ℕ} {n : ℕ} → not a.in_session ≡ true → Put out at [] left n → Appended out at (session_shown a) left n
  unfolding session_shown
  session-not e p = rw (not-true a.in_session e) (appended-put p)

  pub session-put : {left : List ℕ} {n : ℕ} → not a.in_session ≡ false → Put out at (session_record a.session) left n → Appended out at (session_shown a) left n
  unfolding session_shown
  session-put e p = rw (not-false a.in_session e) (appended-put p)

-- what a registration tells behind DeviceID
pub known-join : (s : State) (store : List ℕ) (time : Point) {out w x y z left : List ℕ} {at a b c d n : ℕ} → Put out at (time_record time) w a
    → Appended w a (session_shown s.assigned) x b → Appended x b (groups_shown (held_pairs s.assigned.groups)) y c
    → Appended y c (report_shown s.assigned) z d → Appended z d (copies store (Except 2)) left n → Appended out at (known_to s store time) left n
unfolding known_to
known-join s store time p q r t u =
    let g = groups_shown (held_pairs s.assigned.groups) in
    let i = session_shown s.assigned in
    let m = report_shown s.assigned in
    let o = copies store (Except 2) in
    appended-join (time_record time) (i ++ (g ++ (m ++ o))) (appended-put p)
    (appended-join i (g ++ (m ++ o)) q (appended-join g (m ++ o) r (appended-join m o t u)))

-- nothing at the front of an output leaves it as it was
put-nothing : (out : List ℕ) → Put out 0 [] out 0
put-nothing out = put-fits out 0 [] (fits-true (length out) 0 0 (omega arith))

-- a datagram that passed the end of its buffer is not sent
module _ (out body : List ℕ) (end : ℕ) where
  pub send-over : length body < end → Put out 0 (pick (ltb (length body) end) [] (take end body)) out 0
  send-over h = rw (lt-ltb (length body) end h) (put-nothing out)

  pub send-fits : {left : List ℕ} {n : ℕ} → end ≤ length body → Put out 0 (take end body) left n → Put out 0 (pick (ltb (length body) end) [] (take end body)) left n
  send-fits h p = rw (le-ltb (length body) end h) p

-- what is put together in a buffer of 1,280 bytes is sent where it fits
sent-whole : {zeros bs body : List ℕ} {end : ℕ} → length zeros ≡ 1280 → Appended zeros 0 bs body end → pick (ltb (length body) end) [] (take end body) ≡ sendable bs
unfolding sendable after
sent-whole {zeros} {bs} {body} {end} l p = go (ltb 1280 (length bs)) refl
  where
    go : (t : Bool) → ltb 1280 (length bs) ≡ t → pick (ltb (length body) end) [] (take end body) ≡ pick (ltb 1280 (length bs)) [] bs
    go true h =
        let k = ltb-true 1280 (length bs) h in
        let y : end ≡ length zeros + 1 = rw (fits-false (length zeros) 0 (length bs) (omega arith)) at p.position in
        let z = p.kept in
        rw (h, lt-ltb (length body) end (omega arith))
    go false h =
        let k = ltb-false 1280 (length bs) h in
        let a = appended-all p (omega arith) in
        let z : end ≡ length bs = omega (arith, a.1) in
        let y = p.kept in
        rw (h, le-ltb (length body) end (omega arith)) (appended-front p (omega arith)).1

sent-put : {zeros : List ℕ} (bs : List ℕ) {body : List ℕ} {end : ℕ} {out left : List ℕ} {n : ℕ} → length zeros ≡ 1280 → Appended zeros 0 bs body end
    → Put out 0 (pick (ltb (length body) end) [] (take end body)) left n → Put out 0 (sendable bs) left n
sent-put bs l p q = rw (← sent-whole l p) q

-- behind a head, the position stays exactly where nothing is appended
module _ {zeros head w x : List ℕ} {a m : ℕ} (bs : List ℕ) (l : length zeros ≡ 1280) (h : length head ≡ 9) (p : Put zeros 0 head w a) (q : Appended w a bs x m) where
  stayed : m ≡ a → length bs ≡ 0
  unfolding after
  stayed e = go (ltb (length w) (a + length bs)) refl
    where
      go : (t : Bool) → ltb (length w) (a + length bs) ≡ t → length bs ≡ 0
      go true g =
          let k = ltb-true (length w) (a + length bs) g in
          let y : m ≡ length w + 1 = rw (fits-false (length w) a (length bs) (omega arith)) at q.position in
          let f = (appended-all (appended-put p) (omega arith)).1 in
          let z = (appended-put p).kept in
          absurd (omega arith)
      go false g =
          let k = ltb-false (length w) (a + length bs) g in
          let f = (appended-all q (omega arith)).1 in
          omega arith

  moved : (m ≡ a → ⊥) → length bs ≡ 0 → ⊥
  moved e z =
      let f = (appended-all (appended-put p) (omega arith)).1 in
      let k = (appended-put p).kept in
      let g = (appended-all q (omega arith)).1 in
      e (omega arith)

module _ (s : State) (store : List ℕ) (time : Point) {zeros w x : List ℕ} {a m : ℕ} (l : length zeros ≡ 1280)
    (p : Put zeros 0 (registration_head s.registration.message_id) w a) (q : Appended w a (copies store (Only 2)) x m) where
  -- no DeviceID, nothing sent
  pub registration-none : (out : List ℕ) → m ≡ a → Put out 0 (registration_sent s store time) out 0
  unfolding registration_sent device_id
  registration-none out e = rw (eq-eqb (length (copies store (Only 2))) 0 (stayed (copies store (Only 2)) l refl p q e)) (put-nothing out)

  pub registration-sent : {body : List ℕ} {end : ℕ} {out left : List ℕ} {n : ℕ} → (m ≡ a → ⊥) → Appended x m (known_to s store time) body end
      → Put out 0 (pick (ltb (length body) end) [] (take end body)) left n → Put out 0 (registration_sent s store time) left n
  unfolding registration_sent device_id
  registration-sent e r t =
      let i = registration_head s.registration.message_id in
      let d = copies store (Only 2) in
      let k = known_to s store time in
      rw (ne_eqb (length d) 0 (moved d l refl p q e)) (sent-put (i ++ (d ++ k)) l (appended-join i (d ++ k) (appended-put p) (appended-join d k q r)) t)

pub report-sent : (s : State) (store : List ℕ) (time : Point) {own zeros w x y body : List ℕ} {a b c end : ℕ} {out left : List ℕ} {n : ℕ} → length zeros ≡ 1280
    → own ≡ own_records s time → Put zeros 0 (report_head s.registration.message_id) w a
    → Appended w a (session_shown s.assigned) x b → Put x b (time_record time) y c → Appended y c (shown_all store own (held s.assigned.ids)) body end
    → Put out 0 (pick (ltb (length body) end) [] (take end body)) left n → Put out 0 (report_sent s store time) left n
unfolding report_sent
report-sent s store time {own} l o p q r t u =
    let h = report_head s.registration.message_id in
    let d = session_shown s.assigned in
    let k = shown_all store own (held s.assigned.ids) in
    rw (← o)
    (sent-put (h ++ (d ++ (time_record time ++ k))) l
    (appended-join h (d ++ (time_record time ++ k)) (appended-put p) (appended-join d (time_record time ++ k) q (appended-join (time_record time) k (appended-put r) t)))
    u)

-- the head of a delayed answer
module _ {out left : List ℕ} {n : ℕ} (named : Bool) (id : ℕ) where
  pub head-named : named ≡ true → Put out 0 (answer_head id) left n → Put out 0 (head_of named id) left n
  unfolding head_of
  head-named e p = rw e p

  pub head-path : named ≡ false → Put out 0 (report_head id) left n → Put out 0 (head_of named id) left n
  unfolding head_of
  head-path e p = rw e p

-- a delayed answer: nothing without a session or a record
module _ (s : State) (time : Point) (named : Bool) (rs : List ℕ) where
  pub answer-none : (out : List ℕ) → not s.assigned.in_session ≡ true → Put out 0 (answer_sent s time named rs) out 0
  unfolding answer_sent
  answer-none out e = rw (not-true s.assigned.in_session e) (put-nothing out)

  module _ (e : not s.assigned.in_session ≡ false) where
    pub answer-empty : (out : List ℕ) → length rs ≡ 0 → Put out 0 (answer_sent s time named rs) out 0
    unfolding answer_sent
    answer-empty out h = rw (not-false s.assigned.in_session e, eq-eqb (length rs) 0 h) (put-nothing out)

    pub answer-sent : {zeros w x y body : List ℕ} {a b c end : ℕ} {out left : List ℕ} {n : ℕ} → (length rs ≡ 0 → ⊥) → length zeros ≡ 1280
        → Put zeros 0 (head_of named s.registration.message_id) w a → Appended w a (session_shown s.assigned) x b → Put x b (time_record time) y c
        → Put y c rs body end → Put out 0 (pick (ltb (length body) end) [] (take end body)) left n → Put out 0 (answer_sent s time named rs) left n
    unfolding answer_sent
    answer-sent {out = out} {left} {n} h l p q r t u =
        let f = head_of named s.registration.message_id in
        let d = session_shown s.assigned in
        let k = time_record time ++ rs in
        pick-both (λ (bs : List ℕ). Put out 0 bs left n) s.assigned.in_session _ _
        (λ g. rw (ne_eqb (length rs) 0 h)
        (sent-put (f ++ (d ++ k)) l
        (appended-join f (d ++ k) (appended-put p) (appended-join d k q (appended-join (time_record time) rs (appended-put r) (appended-put t)))) u))
        (λ g. absurd (true≢false (sym (not-false s.assigned.in_session e) ∙ g)))

-- what is sent has at most 1,280 bytes
sendable-short : (bs : List ℕ) → length (sendable bs) ≤ 1280
unfolding sendable
sendable-short bs = go (ltb 1280 (length bs)) refl
  where
    go : (t : Bool) → ltb 1280 (length bs) ≡ t → length (pick t [] bs) ≤ 1280
    go true e = omega arith
    go false e = ltb-false 1280 (length bs) e

pub registration-short : (s : State) (store : List ℕ) (time : Point) → length (registration_sent s store time) ≤ 1280
unfolding registration_sent
registration-short s store time = go (eqb (length (device_id store)) 0)
  where
    all : List ℕ
    all = registration_head s.registration.message_id ++ (device_id store ++ known_to s store time)

    go : (t : Bool) → length (pick t [] (sendable all)) ≤ 1280
    go true = omega arith
    go false = sendable-short all

pub report-short : (s : State) (store : List ℕ) (time : Point) → length (report_sent s store time) ≤ 1280
unfolding report_sent
report-short s store time = sendable-short _

pub answer-short : (s : State) (time : Point) (named : Bool) (rs : List ℕ) → length (answer_sent s time named rs) ≤ 1280
unfolding answer_sent
answer-short s time named rs =
    pick-both (λ (bs : List ℕ). length bs ≤ 1280) s.assigned.in_session _ _
    (λ e. pick-both (λ (bs : List ℕ). length bs ≤ 1280) (eqb (length rs) 0) _ _ (λ f. omega arith) (λ f. sendable-short _))
    (λ e. omega arith)
