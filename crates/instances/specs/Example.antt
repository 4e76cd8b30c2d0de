-- An example of demand 3, document 01, "Transfer", by closed terms: a made state with a transfer open, two feeds that bring blocks and agree, a merge of
-- them, and what it leaves. So `Demand3` speaks of something.
use Rattle.std.specs.Prelude.{ℕ, ◌≡◌, List, [], ◌∷◌, ◌++◌, true, false, replicate}
use Rattle.state.specs.Setup.{setup_of}
use Rattle.state.specs.declared.setup.Setup.{Setup}
use Rattle.transfer.specs.Merge.{Merge, Agreeing}
use Rattle.calls.specs.Complete.{complete_in}
use Rattle.calls.specs.Datagram.{Call, datagram_of}
use Rattle.calls.specs.Made.{Made}
use Rattle.calls.specs.Merge.{Kept, after, after_all, Feed, brought, Merged}

-- hwId "h", no vendorHwId, URL "u", an image of 4 bytes, default intervals
unfoldable pub setup : Setup
setup =
    setup_of (0x68 ∷ []) [] (replicate 32 0) (0x75 ∷ [])
    (record {
      image_len = 4;
      interval_min = record { 0 = 300 };
      interval_max = record { 0 = 3600 };
      message_id = 0;
      signed_posts = false;
      signed_responses = false;
    })

-- a CON POST to `c`, message id 1, with a record
unfoldable pub posts : ℕ → List ℕ → Call
posts verdict payload =
    record {
      out = replicate 1280 0;
      bytes = (0x40 ∷ 0x02 ∷ 0x00 ∷ 0x01 ∷ 0xB1 ∷ 0x63 ∷ 0xFF ∷ []) ++ payload;
      store = [];
      time = record { 0 = 0 };
      verdict = verdict;
      random = 0;
      answers = replicate 4736 0;
    }

abbrev hash : List ℕ
hash = replicate 32 0xAB

-- 65: hwInfo (hwId "h"), fileHash, fileSize 3, blockSize 2
unfoldable pub opening : Call
opening =
    posts 0
    ((0x41 ∷ 0x2B ∷ 0x0A ∷ 0x03 ∷ 0x0A ∷ 0x01 ∷ 0x68 ∷ 0x12 ∷ 0x20 ∷ []) ++ (hash ++ (0x28 ∷ 0x03 ∷ 0x30 ∷ 0x02 ∷ [])))

-- 67: fileHash, blockNum, blockData; block 0 has two bytes, block 1 the one that is left
unfoldable pub block0 : Call
block0 = posts 0 ((0x43 ∷ 0x28 ∷ 0x0A ∷ 0x20 ∷ []) ++ (hash ++ (0x10 ∷ 0x00 ∷ 0x22 ∷ 0x02 ∷ 0x0A ∷ 0x0B ∷ [])))

unfoldable pub block1 : ℕ → ℕ → Call
block1 verdict byte = posts verdict ((0x43 ∷ 0x27 ∷ 0x0A ∷ 0x20 ∷ []) ++ (hash ++ (0x10 ∷ 0x01 ∷ 0x22 ∷ 0x01 ∷ byte ∷ [])))

-- the state and the image buffer once a transfer is open
unfoldable pub opened : Kept
opened = after (record { state = setup.state; image = 0xFF ∷ 0xFF ∷ 0xFF ∷ 0xFF ∷ [] }) opening

-- the first brings block 0, and another block 1 in a call with a verdict that the table refuses; the second brings block 0 once more, and block 1
unfoldable pub first_feed : List Call
first_feed = block0 ∷ block1 3 0x0D ∷ []

unfoldable pub second_feed : List Call
second_feed = block0 ∷ block1 0 0x0C ∷ []

unfoldable pub merge : List Call
merge = block0 ∷ block0 ∷ block1 3 0x0D ∷ block1 0 0x0C ∷ []

-- all that `Demand3` asks for, and so what it promises
pub record Example : Type 0 where
  pub made : Made opened.state
  pub transfer : opened.state.images.«open» ≡ true
  pub feed : Feed opened first_feed
  pub other : Feed opened second_feed
  pub merged : Merge first_feed second_feed merge
  pub agree : Agreeing opened.state.images.image (brought opened first_feed) (brought opened second_feed)
  pub promised : Merged opened first_feed second_feed merge
  -- what the feeds bring; the table refuses a call, whose block does not count
  pub first : brought opened first_feed ≡ record { number = 0; bytes = 0x0A ∷ 0x0B ∷ [] } ∷ []
  pub second : brought opened second_feed ≡ record { number = 0; bytes = 0x0A ∷ 0x0B ∷ [] } ∷ record { number = 1; bytes = 0x0C ∷ [] } ∷ []
  pub refused : (datagram_of opened.state opened.image (block1 3 0x0D)).outcome ≡ 3
  -- the merge completes the image, which was not complete; the byte behind its end stays
  pub before : complete_in opened.state ≡ false
  pub complete : complete_in (after_all merge opened).state ≡ true
  pub bytes : (after_all merge opened).image ≡ 0x0A ∷ 0x0B ∷ 0x0C ∷ 0xFF ∷ []
