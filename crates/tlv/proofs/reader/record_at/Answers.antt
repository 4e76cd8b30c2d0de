-- `reader::record_at` meets its contract: a step of the definition at each answer.
use mathlib.Core.Path.{sym, ap, ◌∙◌}
use Rattle.tlv.specs.Record.{record_at, of_kind, of_value}
use Rattle.tlv.proofs.reader.record_at.Goals as goal

pub returns-in_err-kind : goal.returns-in_err-kind
unfolding record_at of_kind
returns-in_err-kind c =
    let s = c.args.s.now in
    c.from_residual.ensures ∙ sym (ap (of_kind s) (sym c.read.ensures ∙ c.in_err-kind.was))

pub returns-in_err-value : goal.returns-in_err-value
unfolding record_at of_kind of_value
returns-in_err-value c =
    let s = c.args.s.now in
    c.from_residual-in_err-value.ensures ∙ sym (ap (of_kind s) (sym c.read.ensures ∙ c.in_ok-kind.was) ∙ ap (of_value _ _) (sym c.read_delimited.ensures ∙ c.in_err-value.was))

pub returns : goal.returns
unfolding record_at of_kind of_value
returns c =
    let s = c.args.s.now in
    rw c.either.ensures (sym (ap (of_kind s) (sym c.read.ensures ∙ c.in_ok-kind.was) ∙ ap (of_value _ _) (sym c.read_delimited.ensures ∙ c.in_ok-value.was)))
