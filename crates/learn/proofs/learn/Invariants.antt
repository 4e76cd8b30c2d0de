-- `learn::learn` meets its contract: what was learnt and the records from where the loop stands make all there is to learn, and so with what is padded.
use Prim.Native.Nat.{◌-◌, ◌≤◌}
use mathlib.Core.Path.{◌≡◌}
use mathlib.Core.Bool.{◌||◌}
use lib.ListN.{length}
use Rattle.note.specs.Note.{is_padded}
use Rattle.tlv.specs.Record.{records, padded_among}
use Rattle.tlv.proofs.Laws.{padded_from}
use Rattle.learn.proofs.Laws.{learnt_at}
use Rattle.learn.proofs.learn.Given as goal

abbrev pub invariant-loop-at : goal.invariant-loop-at
invariant-loop-at l =
    (learnt_at l.device l.time l.payload 0 l.initial.learnt ≡ learnt_at l.device l.time l.payload l.at l.learnt) × (l.at ≤ length l.payload)
    × (padded_among is_padded (records l.payload) ≡ (l.padded || padded_from is_padded l.payload l.at))

abbrev pub decreases-loop-at : goal.decreases-loop-at
decreases-loop-at l = length l.payload - l.at
