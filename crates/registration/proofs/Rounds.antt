-- Laws of own datagrams: the message id, and what a round leaves.
use Prim.Native.Nat.{ℕ, ◌+◌, ◌<◌}
use mathlib.Core.Path.{◌≡◌}
use mathlib.Core.Bool.{true}
use native.Mathlib.Omega.{arith}
use Rattle.schedule.specs.declared.Length.{Length}
use Rattle.state.specs.declared.Device.{Device}
use Rattle.state.specs.declared.Registration.{Registration}
use Rattle.registration.specs.Backoff.{doubled}
use Rattle.registration.specs.Round.{with_id, next_id, id_taken, round_taken}

pub id-wraps : (id : ℕ) → id ≡ 65535 → 0 ≡ next_id id
unfolding next_id
id-wraps id h = rw h

pub id-up : (id : ℕ) → (id ≡ 65535 → ⊥) → id < 65536 → id + 1 ≡ next_id id
unfolding next_id
id-up id h k = omega arith

-- a registration with a round awaited and another interval
abbrev pub with_round : Registration → ℕ → Length → Registration
with_round t id i =
    record {
      accepted = t.accepted;
      awaited = true;
      round = id;
      interval = i;
      immediate = t.immediate;
      url = t.url;
      message_id = t.message_id;
    }

pub id-taken : (r : Registration) (id : ℕ) → id ≡ next_id r.message_id → with_id r id ≡ id_taken r
unfolding id_taken
id-taken r id e = rw e

pub round-taken : (d : Device) (r t : Registration) (i : Length) → t ≡ id_taken r → i ≡ doubled r.interval d.interval_max
    → with_round t r.message_id i ≡ round_taken d r
unfolding round_taken id_taken
round-taken d r t i e k = rw (e, k)
