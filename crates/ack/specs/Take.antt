-- When an acknowledgement is taken, and what it then does, document 01, "Registration and reports", as document 02, Q-3, amends it; padding, Q-8.
use Rattle.std.specs.Prelude.{ℕ, List, Bool, true, not, ◌&&◌, ◌||◌, eqb}
use Rattle.buffer.specs.Pick.{pick}
use Rattle.post.specs.Judge.{badly_signed}
use Rattle.schedule.specs.declared.Point.{Point}
use Rattle.state.specs.declared.Registration.{Registration}
use Rattle.state.specs.declared.State.{State}
use Rattle.learn.specs.Learn.{learnt_from, padded_in}
use Rattle.note.specs.declared.Learnt.{Learnt}

-- whose id is the latest round's, not yet accepted
unfoldable pub is_awaited : Registration → ℕ → Bool
is_awaited r id = not r.accepted && (r.awaited && eqb r.round id)

-- readable, and passing f (with the setting for responses) and g; one that has no redirect to do and would need a ninth group changes nothing
unfoldable pub is_takable : Learnt → ℕ → Bool → Bool
is_takable l verdict required =
    l.readable && (not (badly_signed l.signed verdict required) && (not l.expired && (l.redirected || not l.needs_ninth)))

-- it is accepted, and any session, groups and report are stored
unfoldable pub accepted_by : State → Learnt → State
accepted_by s l =
    record {
      device = s.device;
      images = s.images;
      assigned = l.assigned;
      registration =
          record {
            accepted = true;
            awaited = s.registration.awaited;
            round = s.registration.round;
            interval = s.registration.interval;
            immediate = s.registration.immediate;
            url = s.registration.url;
            message_id = s.registration.message_id;
          };
      waiting = s.waiting;
    }

-- with a redirect only that is done, and registration restarts
unfoldable pub taken_by : State → Learnt → State
taken_by s l =
    pick l.redirected
    (record { device = s.device; images = s.images; assigned = s.assigned; registration = l.registration; waiting = s.waiting })
    (accepted_by s l)

-- all others change nothing
unfoldable pub taken : State → ℕ → List ℕ → Point → ℕ → State
taken s id p time verdict =
    pick (is_awaited s.registration id)
    (pick (is_takable (learnt_from s.device s.registration s.assigned time p) verdict s.device.signed_responses)
    (taken_by s (learnt_from s.device s.registration s.assigned time p))
    s)
    s

-- document 02, Q-8: where padding is refused, a padded one is unreadable
unfoldable pub acknowledged : State → ℕ → List ℕ → Point → ℕ → State
acknowledged s id p time verdict = pick (s.device.refuse_padding && padded_in p) s (taken s id p time verdict)

-- one that is taken answers whether it is padded
unfoldable pub taken_padded : State → ℕ → List ℕ → Point → ℕ → Bool
taken_padded s id p time verdict =
    is_awaited s.registration id
    && (is_takable (learnt_from s.device s.registration s.assigned time p) verdict s.device.signed_responses
    && (not s.device.refuse_padding && padded_in p))
