-- Laws of the loop over an acknowledgement's records.
use Rattle.std.specs.Prelude.{None, Some}
use Prim.Native.Nat.{ℕ, ◌≤◌, ◌<◌}
use mathlib.Core.Path.{◌≡◌}
use mathlib.Core.List.{List, map}
use mathlib.Core.Bool.{Bool, false}
use lib.ListN.{length}
use Rattle.schedule.specs.declared.Point.{Point}
use Rattle.state.specs.declared.Assigned.{Assigned}
use Rattle.state.specs.declared.Device.{Device}
use Rattle.state.specs.declared.Registration.{Registration}
use Rattle.tlv.specs.Record.{valued, records, readable, record_at, records_from, padded_among}
use Rattle.tlv.specs.declared.Record.{Record}
use Rattle.tlv.proofs.Laws.{records-end, records-more, records-unreadable}
use Rattle.buffer.specs.Pick.{pick}
use Rattle.learn.specs.Learn.{learnt_of, learnt_from, padded_in}
use Rattle.note.specs.Note.{is_padded, nothing_learnt, marked, noted}
use Rattle.note.specs.declared.Learnt.{Learnt}

-- what there is to learn from a position on
module _ (d : Device) (time : Point) (p : List ℕ) where
  unfoldable pub learnt_at : ℕ → Learnt → Learnt
  learnt_at at l =
      pick (records_from p at).whole (learnt_of d time l (map (valued p) (records_from p at).items))
      (marked (learnt_of d time l (map (valued p) (records_from p at).items)) false)

  pub learnt-start : (r : Registration) (a : Assigned) (n : Learnt) → n ≡ nothing_learnt r a → learnt_from d r a time p ≡ learnt_at 0 n
  unfolding learnt_from learnt_at records readable
  learnt-start r a n e = rw e

  module _ (at : ℕ) (l : Learnt) where
    pub learnt-end : length p ≤ at → learnt_at at l ≡ l
    unfolding learnt_at learnt_of
    learnt-end h = rw (records-end p at h)

    pub learnt-unreadable : at < length p → record_at p at ≡ None → learnt_at at l ≡ marked l false
    unfolding learnt_at learnt_of
    learnt-unreadable h e = rw (records-unreadable p at h e)

    pub learnt-next : (r : Record) (n : Learnt) → record_at p at ≡ Some r → n ≡ noted d time l r.kind (valued p r).value → learnt_at at l ≡ learnt_at r.end n
    unfolding learnt_at learnt_of
    learnt-next r n e h = rw (records-more p at r e, h)

-- what is padded in all of it
pub learnt-padded : (p : List ℕ) {b : Bool} → b ≡ padded_among is_padded (records p) → b ≡ padded_in p
unfolding padded_in
learnt-padded p e = e
