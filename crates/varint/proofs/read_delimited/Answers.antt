-- `varint::read_delimited` meets its contract: a step of the definition at each answer.
use mathlib.Core.Path.{sym, ap, ◌∙◌}
use Rattle.varint.specs.Varint.{delimited_at, of_length, of_stretch}
use Rattle.varint.proofs.read_delimited.Goals as goal

pub returns-in_err-len : goal.returns-in_err-len
unfolding delimited_at of_length
returns-in_err-len c =
    let s = c.args.s.now in
    c.from_residual.ensures ∙ sym (ap (of_length s) (sym c.read.ensures ∙ c.in_err-len.was))

pub returns-in_err-end : goal.returns-in_err-end
unfolding delimited_at of_length of_stretch
returns-in_err-end c =
    let s = c.args.s.now in
    c.from_residual-in_err-end.ensures ∙ sym (ap (of_length s) (sym c.read.ensures ∙ c.in_ok-len.was) ∙ ap (of_stretch _ _) (sym c.end_of.ensures ∙ c.in_err-end.was))

pub returns : goal.returns
unfolding delimited_at of_length of_stretch
returns c =
    let s = c.args.s.now in
    sym (ap (of_length s) (sym c.read.ensures ∙ c.in_ok-len.was) ∙ ap (of_stretch _ _) (sym c.end_of.ensures ∙ c.in_ok-end.was))
