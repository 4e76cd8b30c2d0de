-- A call that sends a datagram of the agent's own keeps the state sized.
use Prim.Native.Nat.{ℕ, ◌*◌}
use mathlib.Core.Path.{◌≡◌, refl}
use mathlib.Core.List.{List, [], ◌∷◌}
use mathlib.Core.Bool.{Bool, true, false, not}
use native.Mathlib.Omega.{arith}
use borrow.Author.Tests.{ltb-true}
use lib.Dec.{eqb, ltb}
use Rattle.buffer.specs.Pick.{pick}
use Rattle.outgoing.specs.Sent.{registration_sent, report_sent}
use Rattle.outgoing.specs.declared.Report.{Report}
use Rattle.refusal.specs.Refusal.{own_refusal}
use Rattle.registration.specs.Backoff.{doubled}
use Rattle.registration.specs.Round.{id_taken, round_taken}
use Rattle.schedule.specs.declared.Length.{Length}
use Rattle.schedule.specs.declared.Point.{Point}
use Rattle.state.specs.declared.Device.{Device}
use Rattle.state.specs.declared.Registration.{Registration}
use Rattle.state.specs.declared.State.{State}
use Rattle.calls.specs.Made.{Between, RegistrationSized, Sized}
use Rattle.calls.specs.Own.{unsent, sending, sending_if, round_of, reports, report_of}

-- the interval stays between the smallest and the largest
doubled-between : (low : ℕ) (i high : Length) → Between low i.0 high.0 → Between low (doubled i high).0 high.0
unfolding doubled
doubled-between low i high h = go (ltb (i.0 * 2) high.0) refl
  where
    go : (t : Bool) → ltb (i.0 * 2) high.0 ≡ t → Between low (pick t (record { 0 = i.0 * 2 }) high).0 high.0
    go true e =
        let k = ltb-true (i.0 * 2) high.0 e in
        let l = h.0 in
        (omega arith, omega arith)
    go false e =
        let l = h.0 in
        let m = h.1 in
        (omega arith, omega arith)

module _ (d : Device) (r : Registration) (k : RegistrationSized d r) where
  pub taken-sized : RegistrationSized d (id_taken r)
  unfolding id_taken
  taken-sized = record { url = k.url; text = k.text; interval = k.interval }

  round-taken-sized : RegistrationSized d (round_taken d r)
  unfolding round_taken
  round-taken-sized =
      record { url = k.url; text = k.text; interval = doubled-between d.interval_min.0 r.interval d.interval_max k.interval }

module _ (s : State) (k : Sized s) (r : Registration) (z : RegistrationSized s.device r) where
  sending-sized : (bs : List ℕ) → Sized (sending s r bs).state
  unfolding sending
  sending-sized [] = k
  sending-sized (b ∷ bs) = record { device = k.device; images = k.images; assigned = k.assigned; registration = z; waiting = k.waiting }

  sent-sized : (n : ℕ) (bs : List ℕ) → Sized (sending_if s r n bs).state
  sent-sized n bs = go (eqb n 0)
    where
      go : (t : Bool) → Sized (pick t (sending s r bs) (unsent n s)).state
      go true = sending-sized bs
      go false = k

pub round-sized : (s : State) (out : ℕ) (store : List ℕ) (time : Point) → Sized s → Sized (round_of s out store time).state
unfolding round_of
round-sized s out store time k =
    sent-sized s k (round_taken s.device s.registration) (round-taken-sized s.device s.registration k.registration)
    (own_refusal out store (not s.registration.accepted) 8) (registration_sent s store time)

pub report-sized : (s : State) (out : ℕ) (store : List ℕ) (time : Point) (which : Report) → Sized s → Sized (report_of s out store time which).state
unfolding report_of
report-sized s out store time which k =
    sent-sized s k (id_taken s.registration) (taken-sized s.device s.registration k.registration)
    (own_refusal out store (reports s which) 9) (report_sent s store time)
