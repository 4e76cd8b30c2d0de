-- Laws of one record of an acknowledgement: what each test of the code says of the definitions.
use Rattle.std.specs.Prelude.{None, Option, Some}
use Prim.Native.Nat.{ℕ, ◌≤◌, ◌<◌}
use mathlib.Core.Path.{◌≡◌, ap, ◌∙◌}
use mathlib.Core.List.{List}
use mathlib.Core.Bool.{Bool, true, false}
use borrow.Author.Tests.{le-leb, lt-leb, ne_eqb}
use Rattle.decode.specs.Read.{redirect_of, session_of, group_of, validity_of, signature_of}
use Rattle.decode_report.specs.Report.{report_of}
use Rattle.decode.specs.declared.Group.{Group}
use Rattle.message.specs.Read.{unpadded}
use Rattle.message.specs.declared.Reading.{Reading}
use Rattle.schedule.specs.declared.Point.{Point}
use Rattle.state.specs.declared.Assigned.{Assigned}
use Rattle.state.specs.declared.Device.{Device}
use Rattle.state.specs.declared.Groups.{Groups}
use Rattle.assign.specs.Assign.{with_session, with_report, regrouped}
use Rattle.note.specs.Note.{reading_at, marked, with_assigned, redirect_noted, session_noted, report_noted, with_regrouped, group_assigned, with_group, group_noted, validity_noted, signature_noted, noted}
use Rattle.note.specs.declared.Learnt.{Learnt}

-- one assignment more
module _ (l : Learnt) (kind id : ℕ) where
  pub ninth-unreadable : 8 ≤ l.group_assigns → group_assigned l kind id ≡ marked l false
  unfolding group_assigned
  ninth-unreadable h = rw (le-leb 8 l.group_assigns h)

  pub eight-assigned : l.group_assigns < 8 → (groups : Option Groups) → regrouped l.assigned.groups kind id ≡ groups → with_regrouped l groups ≡ group_assigned l kind id
  unfolding group_assigned
  eight-assigned h groups e = rw (lt-leb 8 l.group_assigns h, e)

module _ (l : Learnt) (m : Group) where
  pub group-kindless : m.kind ≡ None → with_group l m ≡ l
  unfolding with_group
  group-kindless h = rw h

  pub group-idless : (kind : ℕ) → m.kind ≡ Some kind → m.id ≡ None → with_group l m ≡ l
  unfolding with_group
  group-idless kind h k = rw (h, k)

  pub group-whole : (kind id : ℕ) → m.kind ≡ Some kind → m.id ≡ Some id → with_group l m ≡ group_assigned l kind id
  unfolding with_group
  group-whole kind id h k = rw (h, k)

-- what each record adds, where it is told whether its value can be read
module _ (l : Learnt) (v : List ℕ) {readable : Bool} where
  pub session-is : (k : Learnt) (a : Assigned) → readable ≡ (session_of v).reading.readable → k ≡ marked l readable → a ≡ with_session l.assigned v
      → with_assigned k a ≡ session_noted l v
  unfolding session_noted
  session-is k a e f g = rw (f, g, e)

  pub report-is : (k : Learnt) (a : Assigned) → readable ≡ (report_of v).reading.readable → k ≡ marked l readable → a ≡ with_report l.assigned v
      → with_assigned k a ≡ report_noted l v
  unfolding report_noted
  report-is k a e f g = rw (f, g, e)

  pub group-is : (m : Group) (g k : Learnt) → m ≡ group_of v → readable ≡ (group_of v).reading.readable → g ≡ with_group l m → k ≡ marked g readable → k ≡ group_noted l v
  unfolding group_noted
  group-is m g k e h f i = rw (i, f, e, h)

-- what is read, by the record's type
module _ (k : ℕ) (v : List ℕ) where
  pub reads-6 : k ≡ 6 → reading_at k v ≡ (redirect_of v).reading
  unfolding reading_at
  reads-6 h = rw h

  pub reads-7 : k ≡ 7 → reading_at k v ≡ (session_of v).reading
  unfolding reading_at
  reads-7 h = rw h

  pub reads-13 : k ≡ 13 → reading_at k v ≡ (report_of v).reading
  unfolding reading_at
  reads-13 h = rw h

  pub reads-55 : k ≡ 55 → reading_at k v ≡ (group_of v).reading
  unfolding reading_at
  reads-55 h = rw h

  pub reads-76 : k ≡ 76 → reading_at k v ≡ (validity_of v).reading
  unfolding reading_at
  reads-76 h = rw h

  pub reads-77 : k ≡ 77 → reading_at k v ≡ signature_of v
  unfolding reading_at
  reads-77 h = rw h

  pub reads_other : (k ≡ 6 → ⊥) → (k ≡ 7 → ⊥) → (k ≡ 13 → ⊥) → (k ≡ 55 → ⊥) → (k ≡ 76 → ⊥) → (k ≡ 77 → ⊥) → reading_at k v ≡ unpadded true
  unfolding reading_at
  reads_other a b c e f g = rw (ne_eqb k 6 a, ne_eqb k 7 b, ne_eqb k 13 c, ne_eqb k 55 e, ne_eqb k 76 f, ne_eqb k 77 g)

-- whether it can be read
pub readable-as : {r s : Reading} {b : Bool} → b ≡ r.readable → r ≡ s → b ≡ s.readable
readable-as e f = e ∙ ap (λ (x : Reading). x.readable) f

-- one record, by its type
module _ (d : Device) (time : Point) (l : Learnt) (k : ℕ) (v : List ℕ) where
  pub noted-6 : k ≡ 6 → noted d time l k v ≡ redirect_noted d l v
  unfolding noted
  noted-6 h = rw h

  pub noted-7 : k ≡ 7 → noted d time l k v ≡ session_noted l v
  unfolding noted
  noted-7 h = rw h

  pub noted-13 : k ≡ 13 → noted d time l k v ≡ report_noted l v
  unfolding noted
  noted-13 h = rw h

  pub noted-55 : k ≡ 55 → noted d time l k v ≡ group_noted l v
  unfolding noted
  noted-55 h = rw h

  pub noted-76 : k ≡ 76 → noted d time l k v ≡ validity_noted l v time
  unfolding noted
  noted-76 h = rw h

  pub noted-77 : k ≡ 77 → noted d time l k v ≡ signature_noted l v
  unfolding noted
  noted-77 h = rw h

  pub noted_other : (k ≡ 6 → ⊥) → (k ≡ 7 → ⊥) → (k ≡ 13 → ⊥) → (k ≡ 55 → ⊥) → (k ≡ 76 → ⊥) → (k ≡ 77 → ⊥) → noted d time l k v ≡ l
  unfolding noted
  noted_other a b c e f g = rw (ne_eqb k 6 a, ne_eqb k 7 b, ne_eqb k 13 c, ne_eqb k 55 e, ne_eqb k 76 f, ne_eqb k 77 g)
