-- What `specs/Samples.antt` states.
use mathlib.Core.Path.{refl}
use Rattle.buffer.specs.Stretch.{fits, stretch}
use Rattle.buffer.specs.Walk.{walk_for, walk}
use Rattle.varint.specs.Varint.{more, spelt, varint_at, continued, spelling, varint, two, delimited, of_stretch, of_length, delimited_at}
use Rattle.tlv.specs.Record.{of_value, of_kind, record_at, record_step, records_from, records, readable}
use Rattle.utf8.specs.Utf8.{behind, after, utf8_from, is_utf8}
use Rattle.protobuf.specs.Field.{numbered, held, spanned, content_at, of_tag, field_at, field_step, fields_from}
use Rattle.protobuf.specs.Write.{if_any, number_field, bytes_field}
use Rattle.message.specs.Read.{wire_of, count_more, number_of, place_of}
use Rattle.tables.specs.Found.{none_held, none_found, placed, cell_with, each_in, held_with, found_with, found_in}
use Rattle.tables.specs.Table.{contents, held_tells, field_tells, all_readable, readable_to, readable as readable_by, written, write_by}
use Rattle.csmp.specs.Values.{moment_number, at_most}
use Rattle.decode.specs.Read.{session_of, group_of}
use Rattle.encode.specs.Write.{session_record}
use Rattle.encode_image.specs.Write.{response_record}
use Rattle.transfer.specs.Blocks.{blocks, block_length}
use Rattle.transfer.specs.Bitmap.{bit, held as is_held, raised, marked}
use Rattle.images.specs.Images.{map_length}
use Rattle.registration.specs.Backoff.{doubled}
use Rattle.samples.specs.Samples.{intervals, samples, Samples}

pub samples-hold : Samples
unfolding samples intervals doubled map_length marked raised bit is_held blocks block_length response_record session_record session_of group_of moment_number at_most written write_by if_any number_field bytes_field contents held_tells field_tells all_readable readable_to readable_by none_held none_found placed cell_with each_in held_with found_with found_in wire_of count_more number_of place_of numbered held spanned content_at of_tag field_at field_step fields_from behind after utf8_from is_utf8 of_value of_kind record_at record_step records_from records readable more spelt varint_at continued spelling varint two delimited of_stretch of_length delimited_at fits stretch walk_for walk
samples-hold = refl
