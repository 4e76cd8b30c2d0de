-- `note` meets its contract: each part is what was seen before and what this record says.
use native.Mathlib.Omega.{arith}
use Rattle.post.specs.Judge.{noted}
use Rattle.post.proofs.note.Goals as goal

pub overflow_add-result : goal.overflow_add-result
overflow_add-result c = let h = c.requires.0 in omega arith

pub returns : goal.returns
unfolding noted
returns c =
    rw (
      c.either-forbidden.ensures,
      c.is_forbidden.ensures,
      c.either-matched.ensures,
      c.is_match.ensures,
      c.either-grouped.ensures,
      c.either-expired.ensures,
      c.is_expired.ensures,
      c.either-signed.ensures,
      c.both-readable.ensures,
      c.requires.1,
    )
