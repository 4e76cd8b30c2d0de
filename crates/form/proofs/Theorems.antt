-- What `specs/Statements.antt` states of messages; of varints and of records see `Numbers` and `Records`.
use mathlib.Core.Path.{refl}
use Rattle.buffer.specs.Stretch.{fits, stretch}
use Rattle.buffer.specs.Walk.{walk_for, walk}
use Rattle.varint.specs.Varint.{more, spelt, varint_at, of_stretch, of_length, delimited_at}
use Rattle.protobuf.specs.Field.{numbered, held, content_at, of_tag, field_at, field_step, fields_from}
use Rattle.tables.specs.Table.{contents}
use Rattle.form.specs.Form.{repeats, ascending, every, form_by, fits_kind, is_known, in_form}
use Rattle.form.specs.Statements.{MessagesFormed, SamplesJudged}
use Rattle.form.proofs.TableWritten.{written-form}
use Rattle.form.proofs.TableUnchanged.{unchanged}

pub messages-formed : MessagesFormed
messages-formed T f =
    record { form = λ v m n. written-form T v (record { ordered = f.ordered; small = m; short = n }); unchanged = unchanged T f.ordered }

pub samples-judged : SamplesJudged
unfolding in_form form_by every fits_kind is_known ascending repeats contents fields_from walk walk_for field_step field_at of_tag content_at numbered held varint_at spelt more delimited_at of_length of_stretch stretch fits
samples-judged = refl
