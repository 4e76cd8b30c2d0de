-- The example of demand 3, by computation.
use mathlib.Core.Path.{◌≡◌, refl}
use mathlib.Core.Bool.{true}
use native.Mathlib.Omega.{arith}
use Rattle.buffer.specs.Listed.{listed}
use Rattle.buffer.specs.Same.{same_bytes}
use Rattle.buffer.specs.Stretch.{fits, stretch}
use Rattle.buffer.specs.Walk.{walk, walk_for}
use Rattle.class.specs.Class.{class_of, is_request}
use Rattle.coap.specs.Frame.{body_of, frame_of, of_ending, of_token}
use Rattle.coap.specs.Option.{extended, of_delta, of_length as of_option_length, of_stretch as of_option_stretch, option_at, option_from, options, options_for, payload_from}
use Rattle.csmp.specs.Values.{at_most, field_is}
use Rattle.decode_image.specs.Read.{block_of, transfer_of}
use Rattle.firmware.specs.Answer.{is_open}
use Rattle.firmware.specs.Place.{hash_at, is_hash}
use Rattle.message.specs.Read.{count_more, number_of, place_of, wire_of}
use Rattle.opening.specs.Open.{fault_of, is_given, is_ours, is_whole, number_or0, open_if, opened_by, opens, replaced, sized_texts, transfer_answered, transfer_taken}
use Rattle.post.specs.Judge.{badly_signed, judged, judged_as, looked_at, noted, sealed, seen_of}
use Rattle.post.specs.Value.{is_expired, is_forbidden, reading_at}
use Rattle.protobuf.specs.Field.{content_at, field_at, field_step, fields_from, held as held_field, numbered, of_tag}
use Rattle.refusal.specs.Refusal.{refusal_of}
use Rattle.request.specs.Delay.{delay_by, delay_from, without_delay}
use Rattle.request.specs.Options.{any_unknown, is_c, mark_of, path_from, path_of, query_from, query_of, refused_from, second_of, those, unknown}
use Rattle.request.specs.Request.{delay_allowed, delayed_as, delayed_by, method_of, request_of, unasked_of}
use Rattle.run.specs.Post.{judged_at, posted, posted_as}
use Rattle.run.specs.Run.{ran}
use Rattle.state.specs.Setup.{first_state, hw_id_of, setup_of, valid_settings, valid_texts, within}
use Rattle.step.specs.Step.{act, block_taken}
use Rattle.store.specs.Store.{acceptable, fine, seen_of as seen_in_store}
use Rattle.tables.specs.Found.{cell_with, each_in, found_in, found_with, held_with, none_found, none_held, placed}
use Rattle.tables.specs.Table.{all_readable, contents, field_tells, held_tells, readable as readable_by, readable_to}
use Rattle.tlv.specs.Record.{of_kind, of_value, readable, record_at, record_step, records, records_from}
use Rattle.transfer.specs.Bitmap.{bit, complete, held, marked, one_more, raised}
use Rattle.transfer.specs.Block.{fits_at, offered, put_block, take_block}
use Rattle.transfer.specs.Blocks.{block_length, blocks}
use Rattle.transfer.specs.Merge.{Merge, none, first, second, Agreeing}
use Rattle.utf8.specs.Utf8.{after, behind, is_utf8, utf8_from}
use Rattle.varint.specs.Varint.{delimited_at, of_length, of_stretch, spelt, varint_at}
use Rattle.calls.specs.Complete.{complete_in}
use Rattle.calls.specs.Datagram.{classed, datagram_of, received, refusal, replied, requested, served, served_as}
use Rattle.instances.specs.Example.{setup, posts, opening, block0, block1, opened, first_feed, second_feed, merge, Example}
use Rattle.calls.specs.Made.{called, Made, set}
use Rattle.calls.specs.Merge.{after_all, any_steers, brought, Feed, feeds, offers, runs, shut_out, steers}
use Rattle.calls.proofs.Merges.{demand-3}

-- what computes: varints, records, fields and the tables of values
reading : Unit {0}
unfolding fits stretch walk walk_for spelt varint_at of_stretch of_length delimited_at of_kind of_value record_at record_step records_from records readable numbered held_field content_at of_tag field_at field_step fields_from is_utf8 utf8_from after behind contents held_tells field_tells all_readable readable_to readable_by none_held none_found placed cell_with each_in held_with found_with found_in wire_of count_more number_of place_of transfer_of block_of
reading = tt

-- frames and what they ask for
framing : Unit {0}
unfolding of_delta of_option_length of_option_stretch extended option_at option_from options_for options payload_from of_ending of_token body_of frame_of is_request class_of mark_of those any_unknown unknown refused_from is_c path_of path_from second_of query_of query_from without_delay delay_by delay_from delay_allowed delayed_by delayed_as method_of unasked_of request_of
framing = tt

-- steps e to j
running : Unit {0}
unfolding listed reading_at is_expired is_forbidden noted seen_of sealed looked_at badly_signed judged judged_as judged_at same_bytes at_most field_is is_hash hash_at is_open is_given number_or0 sized_texts is_whole is_ours fault_of opened_by replaced opens open_if transfer_taken transfer_answered blocks block_length bit raised held marked one_more fits_at put_block offered take_block block_taken act ran posted_as posted
running = tt

-- setup and calls, and those of the example
calling : Unit {0}
unfolding within valid_texts valid_settings first_state setup_of fine seen_in_store acceptable refusal_of refusal served_as served replied requested classed received datagram_of after_all shut_out runs steers any_steers feeds offers brought complete complete_in setup posts opening block0 block1 opened first_feed second_feed merge
calling = tt

valid : setup.outcome ≡ 0
unfolding calling
valid = refl

made : Made opened.state
unfolding opened setup
made = called (set _ _ _ _ _ valid) _ opening

transfer : opened.state.images.«open» ≡ true
unfolding reading framing running calling
transfer = refl

feed : Feed opened first_feed
unfolding reading framing running calling
feed = (refl, (refl, tt))

other : Feed opened second_feed
unfolding reading framing running calling
other = (refl, (refl, tt))

merged : Merge first_feed second_feed merge
unfolding first_feed second_feed merge
merged = second (first (first (second none)))

pub example : Example
unfolding reading framing running calling
example =
    record {
      made = made;
      transfer = transfer;
      feed = feed;
      other = other;
      merged = merged;
      agree = agree;
      promised = demand-3 opened first_feed second_feed merge made transfer feed other merged agree;
      first = refl;
      second = refl;
      refused = refl;
      before = refl;
      complete = refl;
      bytes = refl;
    }
  where
    agree : Agreeing opened.state.images.image (brought opened first_feed) (brought opened second_feed)
    agree = ((λ _ _ _ _. refl, (λ e _ _ _. absurd (omega arith), tt)), tt)
