-- What `specs/Statements.antt` states.
use Rattle.std.specs.Prelude.{None, Option, Some}
use Prim.Native.Nat.{ℕ}
use mathlib.Core.Path.{◌≡◌, refl, ◌∙◌}
use mathlib.Core.List.{List}
use Rattle.buffer.specs.Stretch.{fits, stretch}
use Rattle.buffer.specs.Walk.{walk_for, walk}
use Rattle.varint.specs.Varint.{more, spelt, varint_at, of_stretch, of_length, delimited_at}
use Rattle.protobuf.specs.Field.{numbered, held, spanned, content_at, of_tag, field_at, field_step, fields_from}
use Rattle.message.specs.Read.{wire_of, count_more, number_of, flag_of, place_of}
use Rattle.protobuf.specs.Given.{bytes_given}
use Rattle.tables.specs.Found.{Cell, Found, none_held, none_found, placed, cell_with, each_in, held_with, found_with, found_in, bytes_in}
use Rattle.tables.specs.Statements.{Tells}
use Rattle.tables.specs.Table.{message, Values, contents, held_tells, field_tells, any_padded, padded_to, padded, read_by}
use Rattle.tables.proofs.TableTells.{tells}
use Rattle.csmp.specs.Named.{in_part}
use Rattle.csmp.specs.Tables.{hardware_info, transfer_request, image_block, load_request, image_hash}
use Rattle.csmp.specs.Values.{moment_of, moment_number}
use Rattle.csmp.proofs.NamedLaws.{moment-back}
use Rattle.decode_image.specs.Read.{transfer_of, block_of, load_of, hash_of}
use Rattle.decode_image.specs.Statements.{TransferRead, BlockRead, LoadRead, HashRead, ReadByTables, samples, Samples, paddings, Paddings}

-- the fields of hwInfo, where there is one
hardware-read : (v : List ℕ) (c : Cell × Found hardware_info) (m : Option (Values hardware_info)) → Tells v (message hardware_info) c m
    → (bytes_given v (bytes_in c.1.0.0) ≡ in_part (λ (h : Values hardware_info). h.0) m) × (bytes_given v (bytes_in c.1.1.0.0) ≡ in_part (λ (h : Values hardware_info). h.1.0) m)
unfolding none_found none_held place_of
hardware-read v c None h = (rw h.1, rw h.1)
hardware-read v c (Some m) h = (h.1.0, h.1.1.0)

transfer-read : (v : List ℕ) → TransferRead v
unfolding transfer_of
transfer-read v =
    let t = tells transfer_request v in
    let h = hardware-read v (found_in transfer_request v).0 (read_by transfer_request v).0 t.0 in
    record {
      reading = refl;
      padding = refl;
      hw_id = h.0;
      vendor_hw_id = h.1;
      file_hash = t.1.0;
      file_name = t.1.1.0;
      version = t.1.1.1.0;
      file_size = t.1.1.1.1.0;
      block_size = t.1.1.1.1.1.0;
    }

block_read : (v : List ℕ) → BlockRead v
unfolding block_of
block_read v = let t = tells image_block v in record { reading = refl; padding = refl; file_hash = t.0; block_num = t.1.0; block_data = t.1.1.0 }

load_read : (v : List ℕ) → LoadRead v
unfolding load_of
load_read v = let t = tells load_request v in record { reading = refl; padding = refl; file_hash = t.0; load_time = moment-back _ ∙ t.1.0 }

hash-read : (v : List ℕ) → HashRead v
unfolding hash_of
hash-read v = record { reading = refl; padding = refl; file_hash = (tells image_hash v).0 }

pub read-by-tables : ReadByTables
read-by-tables = record { transfers = transfer-read; blocks = block_read; loads = load_read; hashes = hash-read }

pub samples-read : Samples
unfolding samples transfer_of block_of load_of hash_of moment_of moment_number none_held none_found placed cell_with each_in held_with found_with found_in wire_of count_more number_of flag_of place_of numbered held spanned content_at of_tag field_at field_step fields_from more spelt varint_at of_stretch of_length delimited_at fits stretch walk_for walk
samples-read = refl

pub paddings-read : Paddings
unfolding paddings padded padded_to any_padded field_tells held_tells contents numbered held spanned content_at of_tag field_at field_step fields_from more spelt varint_at of_stretch of_length delimited_at fits stretch walk_for walk
paddings-read = refl
