-- `utf8::is_utf8` meets its contract: what is left of the character that was begun decides with the bytes behind it.
use mathlib.Core.Path.{◌≡◌}
use lib.ListN.{drop}
use Rattle.utf8.specs.Pass.{owed}
use Rattle.utf8.specs.Utf8.{utf8_from, is_utf8}
use Rattle.utf8.proofs.is_utf8.Given as goal

abbrev pub invariant-loop-b : goal.invariant-loop-b
invariant-loop-b l = is_utf8 l.s ≡ utf8_from (owed l.r) (drop l.b-index l.s)
