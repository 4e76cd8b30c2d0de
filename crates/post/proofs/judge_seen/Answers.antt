-- `judge_seen` meets its contract: each test that fails decides, in their order.
use mathlib.Core.Path.{sym, ◌∙◌}
use borrow.Author.Tests.{not-true, not-false, eq-eqb, ne_eqb, le-leb, lt-leb}
use Rattle.post.specs.Judge.{judged}
use Rattle.post.proofs.judge_seen.Goals as goal

pub returns-then-not-seen : goal.returns-then-not-seen
unfolding judged
returns-then-not-seen c = let s = c.args.seen in rw (not-true _ c.if-not-seen.true)

pub returns-then-seen-eq0 : goal.returns-then-seen-eq0
unfolding judged
returns-then-seen-eq0 c = let s = c.args.seen in rw (not-false _ c.if-not-seen.false, eq-eqb s.records 0 c.if-seen-eq0.true)

pub returns-then-seen-gt24 : goal.returns-then-seen-gt24
unfolding judged
returns-then-seen-gt24 c = let s = c.args.seen in rw (not-false _ c.if-not-seen.false, ne_eqb s.records 0 c.if-seen-eq0.false, lt-leb s.records 24 c.if-seen-gt24.true)

pub returns-then-badly_signed : goal.returns-then-badly_signed
unfolding judged
returns-then-badly_signed c = let s = c.args.seen in rw (not-false _ c.if-not-seen.false, ne_eqb s.records 0 c.if-seen-eq0.false, le-leb s.records 24 c.if-seen-gt24.false, sym c.badly_signed.ensures ∙ c.if-badly_signed.true)

pub returns-then-seen : goal.returns-then-seen
unfolding judged
returns-then-seen c = let s = c.args.seen in rw (not-false _ c.if-not-seen.false, ne_eqb s.records 0 c.if-seen-eq0.false, le-leb s.records 24 c.if-seen-gt24.false, sym c.badly_signed.ensures ∙ c.if-badly_signed.false, c.if-seen.true)

pub returns-then-unmatched : goal.returns-then-unmatched
unfolding judged
returns-then-unmatched c = let s = c.args.seen in rw (not-false _ c.if-not-seen.false, ne_eqb s.records 0 c.if-seen-eq0.false, le-leb s.records 24 c.if-seen-gt24.false, sym c.badly_signed.ensures ∙ c.if-badly_signed.false, c.if-seen.false, sym c.unmatched.ensures ∙ c.if-unmatched.true)

pub returns-then-seen-2 : goal.returns-then-seen-2
unfolding judged
returns-then-seen-2 c = let s = c.args.seen in rw (not-false _ c.if-not-seen.false, ne_eqb s.records 0 c.if-seen-eq0.false, le-leb s.records 24 c.if-seen-gt24.false, sym c.badly_signed.ensures ∙ c.if-badly_signed.false, c.if-seen.false, sym c.unmatched.ensures ∙ c.if-unmatched.false, c.if-seen-2.true)

pub returns : goal.returns
unfolding judged
returns c = let s = c.args.seen in rw (not-false _ c.if-not-seen.false, ne_eqb s.records 0 c.if-seen-eq0.false, le-leb s.records 24 c.if-seen-gt24.false, sym c.badly_signed.ensures ∙ c.if-badly_signed.false, c.if-seen.false, sym c.unmatched.ensures ∙ c.if-unmatched.false, c.if-seen-2.false)
