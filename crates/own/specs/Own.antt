-- The agent's own records, document 01, "Requests, in this order" and "Transfer": 13, 18, 58, 75.
use Rattle.std.specs.Prelude.{ℕ, List, [], ◌∷◌, ◌++◌}
use Rattle.buffer.specs.Pick.{pick}
use Rattle.encode.specs.Write.{report_record, time_record, group_record}
use Rattle.images.specs.Images.{images_shown}
use Rattle.schedule.specs.declared.Point.{Point}
use Rattle.state.specs.Groups.{held_pairs}
use Rattle.state.specs.declared.Assigned.{Assigned}
use Rattle.state.specs.declared.Pair.{Pair}
use Rattle.state.specs.declared.State.{State}

-- 13, as held
unfoldable pub report_shown : Assigned → List ℕ
report_shown a = pick a.reporting (report_record a.interval a.ids) []

-- 58 for each group
unfoldable pub groups_shown : List Pair → List ℕ
groups_shown [] = []
groups_shown (p ∷ ps) = group_record p.kind p.id ++ groups_shown ps

-- 18 holds the host's time as posix only
unfoldable pub own_records : State → Point → List ℕ
own_records s time =
    report_shown s.assigned
    ++ (time_record time ++ (groups_shown (held_pairs s.assigned.groups) ++ images_shown s.images))
