-- A figure or a letter.
use Rattle.lister.proofs.Laws.{digit_low, digit-high}
use Rattle.lister.proofs.text.digit.Goals as goal

pub returns-then-n-lt10 : goal.returns-then-n-lt10
returns-then-n-lt10 c = digit_low _ c.if-n-lt10.true

pub returns : goal.returns
returns c = digit-high _ c.if-n-lt10.false
