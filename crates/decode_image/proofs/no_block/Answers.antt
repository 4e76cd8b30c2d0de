-- `decode_image::no_block` meets its contract: no bytes hold no field.
use Rattle.buffer.specs.Walk.{walk, walk_for}
use Rattle.decode_image.specs.Read.{block_of}
use Rattle.message.specs.Read.{place_of, number_of}
use Rattle.protobuf.specs.Field.{fields_from}
use Rattle.tables.specs.Found.{found_in, each_in, placed, none_found}
use Rattle.tables.specs.Table.{readable, readable_to, all_readable, padded, padded_to, any_padded, contents}
use Rattle.decode_image.proofs.no_block.Goals as goal

pub returns : goal.returns
unfolding block_of readable padded place_of number_of readable_to padded_to any_padded found_in fields_from each_in walk placed walk_for all_readable none_found contents
returns c = rw c.empty-reading.ensures
