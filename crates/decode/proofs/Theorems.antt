-- What `specs/Statements.antt` states.
use Prim.Native.Nat.{ℕ}
use mathlib.Core.Path.{refl, ap, ◌∙◌}
use mathlib.Core.Bool.{◌&&◌}
use mathlib.Core.List.{List}
use Rattle.buffer.specs.Stretch.{fits, stretch}
use Rattle.buffer.specs.Walk.{walk_for, walk}
use Rattle.varint.specs.Varint.{more, spelt, varint_at, of_stretch, of_length, delimited_at}
use Rattle.protobuf.specs.Field.{numbered, held, spanned, content_at, of_tag, field_at, field_step, fields_from}
use Rattle.message.specs.Read.{wire_of, count_more, number_of, flag_of, place_of}
use Rattle.tables.specs.Found.{none_held, none_found, placed, cell_with, each_in, held_with, found_with, found_in}
use Rattle.tables.specs.Table.{contents, held_tells, field_tells, all_readable, readable_to, readable}
use Rattle.tables.proofs.TableLies.{lies}
use Rattle.tables.proofs.TableTells.{tells}
use Rattle.csmp.specs.Tables.{redirect, session, group, signature_validity}
use Rattle.csmp.specs.Values.{moment_of, moment_number}
use Rattle.csmp.specs.Named.{short}
use Rattle.csmp.proofs.NamedLaws.{moment-back, at-most-short}
use Rattle.decode.specs.Read.{redirect_of, session_of, group_of, validity_of, signature_of}
use Rattle.decode.specs.Statements.{RedirectRead, SessionRead, GroupRead, ValidityRead, ReadByTables, samples, Samples}

redirect-read : (v : List ℕ) → RedirectRead v
unfolding redirect_of
redirect-read v =
    let t = tells redirect v in
    let e = at-most-short 128 v (redirect_of v).url (lies redirect v).0 ∙ ap (short 128) t.0 in
    record { reading = ap (◌&&◌ (readable redirect v)) e; padding = refl; url = t.0; immediate = t.1.0 }

pub session-read : (v : List ℕ) → SessionRead v
unfolding session_of
session-read v =
    let t = tells session v in
    let e = at-most-short 64 v (session_of v).id (lies session v).0 ∙ ap (short 64) t.0 in
    record { reading = ap (◌&&◌ (readable session v)) e; padding = refl; id = t.0 }

group-read : (v : List ℕ) → GroupRead v
unfolding group_of
group-read v = let t = tells group v in record { reading = refl; padding = refl; type = t.0; id = t.1.0 }

validity-read : (v : List ℕ) → ValidityRead v
unfolding validity_of
validity-read v = let t = tells signature_validity v in record { reading = refl; padding = refl; not_before = moment-back _ ∙ t.0; not_after = moment-back _ ∙ t.1.0 }

pub read-by-tables : ReadByTables
unfolding signature_of
read-by-tables =
    record { redirects = redirect-read; sessions = session-read; groups = group-read; validities = validity-read; signatures = λ v. (refl, refl) }

pub samples-read : Samples
unfolding samples redirect_of session_of group_of validity_of signature_of readable readable_to all_readable field_tells held_tells contents moment_of moment_number none_held none_found placed cell_with each_in held_with found_with found_in wire_of count_more number_of flag_of place_of numbered held spanned content_at of_tag field_at field_step fields_from more spelt varint_at of_stretch of_length delimited_at fits stretch walk_for walk
samples-read = refl
