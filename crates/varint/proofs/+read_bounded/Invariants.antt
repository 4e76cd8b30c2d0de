-- `varint::read_bounded` meets its contract: a step of the definition at each answer. The measure is how many bytes may follow.
use Rattle.varint.proofs.+read_bounded.Given as goal

abbrev pub decreases-read_bounded : goal.decreases-read_bounded
decreases-read_bounded l = l.left
