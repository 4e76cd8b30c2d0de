-- `look` meets its contract: what was seen and the records from where the loop stands make all there is to see, so with what is padded, and the block is that of its place.
use Prim.Native.Nat.{◌-◌, ◌≤◌}
use mathlib.Core.Path.{◌≡◌}
use mathlib.Core.Bool.{◌||◌}
use lib.ListN.{length, take, drop}
use Rattle.decode_image.specs.Read.{block_of}
use Rattle.tlv.specs.Record.{records, padded_among}
use Rattle.tlv.proofs.Laws.{padded_from}
use Rattle.post.specs.Judge.{looked_at}
use Rattle.post.specs.Value.{is_padded}
use Rattle.post.proofs.Laws.{looked_from}
use Rattle.post.proofs.look.Given as goal

abbrev pub invariant-loop-at : goal.invariant-loop-at
invariant-loop-at l = (looked_at l.groups l.time l.payload ≡ looked_from l.groups l.time l.payload l.at l.seen) × (l.seen.records ≤ l.at) × (l.at ≤ length l.payload)
    × (l.block ≡ block_of (take (l.to - l.from) (drop l.from l.payload))) × (padded_among is_padded (records l.payload) ≡ (l.padded || padded_from is_padded l.payload l.at))

abbrev pub decreases-loop-at : goal.decreases-loop-at
decreases-loop-at l = length l.payload - l.at
