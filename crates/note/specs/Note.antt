-- What one record of an acknowledgement says, document 01, "Registration and reports", as document 02, Q-3, amends it; padding, Q-8;
-- text, Q-5: a value with a string that is no text can't be read.
use Rattle.std.specs.Prelude.{ℕ, ◌+◌, List, Bool, true, false, ◌&&◌, ◌||◌, eqb, leb, None, Option, Some}
use Rattle.buffer.specs.Pick.{pick}
use Rattle.decode.specs.Read.{redirect_of, session_of, group_of, validity_of, signature_of}
use Rattle.decode_report.specs.Report.{report_of}
use Rattle.decode.specs.declared.Group.{Group}
use Rattle.message.specs.Read.{unpadded}
use Rattle.message.specs.declared.Reading.{Reading}
use Rattle.post.specs.Value.{is_expired}
use Rattle.registration.specs.Redirect.{followed, url_in, redirected}
use Rattle.schedule.specs.declared.Point.{Point}
use Rattle.state.specs.declared.Assigned.{Assigned}
use Rattle.state.specs.declared.Device.{Device}
use Rattle.state.specs.declared.Groups.{Groups}
use Rattle.state.specs.declared.Registration.{Registration}
use Rattle.assign.specs.Assign.{with_session, with_report, regrouped, holding}
use Rattle.note.specs.declared.Learnt.{Learnt}

-- what is read of a value of 6, 7, 13, 55, 76, 77; others are skipped unread
unfoldable pub reading_at : ℕ → List ℕ → Reading
reading_at k v =
    pick (eqb k 6) (redirect_of v).reading
    (pick (eqb k 7) (session_of v).reading
    (pick (eqb k 13) (report_of v).reading
    (pick (eqb k 55) (group_of v).reading
    (pick (eqb k 76) (validity_of v).reading
    (pick (eqb k 77) (signature_of v) (unpadded true))))))

-- document 02, Q-8
abbrev pub is_padded : ℕ → List ℕ → Bool
is_padded k v = (reading_at k v).padded

-- before the first record
abbrev pub nothing_learnt : Registration → Assigned → Learnt
nothing_learnt r held =
    record {
      readable = true;
      signed = false;
      expired = false;
      redirected = false;
      registration = r;
      assigned = held;
      group_assigns = 0;
      needs_ninth = false;
    }

-- readable: its 6, 7, 13, 55, 76, 77 too
abbrev pub marked : Learnt → Bool → Learnt
marked l b =
    record {
      readable = l.readable && b;
      signed = l.signed;
      expired = l.expired;
      redirected = l.redirected;
      registration = l.registration;
      assigned = l.assigned;
      group_assigns = l.group_assigns;
      needs_ninth = l.needs_ninth;
    }

abbrev pub with_assigned : Learnt → Assigned → Learnt
with_assigned l a =
    record {
      readable = l.readable;
      signed = l.signed;
      expired = l.expired;
      redirected = l.redirected;
      registration = l.registration;
      assigned = a;
      group_assigns = l.group_assigns;
      needs_ninth = l.needs_ninth;
    }

-- 6: of several redirects the last not ignored counts, since each starts registration again
unfoldable pub redirect_noted : Device → Learnt → List ℕ → Learnt
redirect_noted d l v =
    record {
      readable = l.readable && (redirect_of v).reading.readable;
      signed = l.signed;
      expired = l.expired;
      redirected = l.redirected || followed (url_in v);
      registration = redirected d l.registration v;
      assigned = l.assigned;
      group_assigns = l.group_assigns;
      needs_ninth = l.needs_ninth;
    }

-- 7: of several sessions the last not ignored counts
unfoldable pub session_noted : Learnt → List ℕ → Learnt
session_noted l v = marked (with_assigned l (with_session l.assigned v)) (session_of v).reading.readable

-- 13: of several reports the last counts
unfoldable pub report_noted : Learnt → List ℕ → Learnt
report_noted l v = marked (with_assigned l (with_report l.assigned v)) (report_of v).reading.readable

-- 55: one assignment more, and whether it would need a ninth group
abbrev pub with_regrouped : Learnt → Option Groups → Learnt
with_regrouped l None =
    record {
      readable = l.readable;
      signed = l.signed;
      expired = l.expired;
      redirected = l.redirected;
      registration = l.registration;
      assigned = l.assigned;
      group_assigns = l.group_assigns + 1;
      needs_ninth = true;
    }
with_regrouped l (Some groups) =
    record {
      readable = l.readable;
      signed = l.signed;
      expired = l.expired;
      redirected = l.redirected;
      registration = l.registration;
      assigned = holding l.assigned groups;
      group_assigns = l.group_assigns + 1;
      needs_ninth = l.needs_ninth;
    }

-- over 8 complete ones make it unreadable, whatever their types
unfoldable pub group_assigned : Learnt → ℕ → ℕ → Learnt
group_assigned l kind id = pick (leb 8 l.group_assigns) (marked l false) (with_regrouped l (regrouped l.assigned.groups kind id))

-- an incomplete one is ignored
abbrev pub grouped : Learnt → Option ℕ → Option ℕ → Learnt
grouped l None id = l
grouped l (Some kind) None = l
grouped l (Some kind) (Some id) = group_assigned l kind id

unfoldable pub with_group : Learnt → Group → Learnt
with_group l m = grouped l m.kind m.id

unfoldable pub group_noted : Learnt → List ℕ → Learnt
group_noted l v = marked (with_group l (group_of v)) (group_of v).reading.readable

-- 76 and 77: for f and g
unfoldable pub validity_noted : Learnt → List ℕ → Point → Learnt
validity_noted l v time =
    record {
      readable = l.readable && (validity_of v).reading.readable;
      signed = l.signed;
      expired = l.expired || is_expired 76 v time;
      redirected = l.redirected;
      registration = l.registration;
      assigned = l.assigned;
      group_assigns = l.group_assigns;
      needs_ninth = l.needs_ninth;
    }

unfoldable pub signature_noted : Learnt → List ℕ → Learnt
signature_noted l v =
    record {
      readable = l.readable && (signature_of v).readable;
      signed = true;
      expired = l.expired;
      redirected = l.redirected;
      registration = l.registration;
      assigned = l.assigned;
      group_assigns = l.group_assigns;
      needs_ninth = l.needs_ninth;
    }

-- one record more; others are skipped unread
unfoldable pub noted : Device → Point → Learnt → ℕ → List ℕ → Learnt
noted d time l k v =
    pick (eqb k 6) (redirect_noted d l v)
    (pick (eqb k 7) (session_noted l v)
    (pick (eqb k 13) (report_noted l v)
    (pick (eqb k 55) (group_noted l v)
    (pick (eqb k 76) (validity_noted l v time)
    (pick (eqb k 77) (signature_noted l v) l)))))
