-- What own datagrams change, document 01, "Registration and reports".
use Rattle.std.specs.Prelude.{ℕ, ◌+◌, ◌%◌, true}
use Rattle.state.specs.declared.Device.{Device}
use Rattle.state.specs.declared.Registration.{Registration}
use Rattle.registration.specs.Backoff.{doubled}

-- the message id goes up by one, wrapping at 65,536
unfoldable pub next_id : ℕ → ℕ
next_id id = (id + 1) % 65536

-- each own datagram takes the message id
abbrev pub with_id : Registration → ℕ → Registration
with_id r id =
    record {
      accepted = r.accepted;
      awaited = r.awaited;
      round = r.round;
      interval = r.interval;
      immediate = r.immediate;
      url = r.url;
      message_id = id;
    }

unfoldable pub id_taken : Registration → Registration
id_taken r = with_id r (next_id r.message_id)

-- a round is awaited under its id; the interval then doubles and stops at the largest
unfoldable pub round_taken : Device → Registration → Registration
round_taken d r =
    record {
      accepted = r.accepted;
      awaited = true;
      round = r.message_id;
      interval = doubled r.interval d.interval_max;
      immediate = r.immediate;
      url = r.url;
      message_id = next_id r.message_id;
    }
