-- What `specs/Strings.antt` states, computed.
use mathlib.Core.Path.{refl}
use Rattle.buffer.specs.Stretch.{fits, stretch}
use Rattle.buffer.specs.Walk.{walk_for, walk}
use Rattle.varint.specs.Varint.{more, spelt, varint_at, of_stretch, of_length, delimited_at}
use Rattle.utf8.specs.Utf8.{behind, after, utf8_from, is_utf8}
use Rattle.protobuf.specs.Field.{numbered, held, spanned, content_at, of_tag, field_at, field_step, fields_from}
use Rattle.tables.specs.Table.{contents, held_tells, field_tells, all_readable, readable_to, readable}
use Rattle.csmp.specs.Strings.{string_samples, StringsJudged}

pub strings-judged : StringsJudged
unfolding string_samples readable readable_to all_readable field_tells held_tells contents behind after utf8_from is_utf8 numbered held spanned content_at of_tag field_at field_step fields_from more spelt varint_at of_stretch of_length delimited_at fits stretch walk_for walk
strings-judged = refl
