-- Which fields are text, document 02, Q-5: values, and whether their tables can read them.
use Rattle.std.specs.Prelude.{ℕ, ◌≡◌, List, [], ◌∷◌, map, Bool, true, false}
use Rattle.tables.specs.Table.{Table, readable}
use Rattle.csmp.specs.Tables.{redirect, session, report_subscribe, transfer_request, image_block, load_request, image_hash, signature}

pub record StringSample : Type 0 where
  pub table : Table
  pub bytes : List ℕ
  pub readable : Bool

abbrev sample : Table → Bool → List ℕ → StringSample
sample table readable bytes = record { table = table; bytes = bytes; readable = readable }

-- FF stands in no text. 6: url empty; of two bytes; cut short; FF; FF, which a later one overrides; a number in its place, which is skipped; field 3, which is
-- skipped. 7: id of two bytes; FF. 13: FF in either list; a text that is no id, which is then ignored; FF before an id; field 5, which is skipped. 65: hwId; vendorHwId;
-- hwId that a later part overrides; a character in two parts; field 3 of hwInfo, which is skipped; fileHash, which is bytes; fileName; version. 67 to 70 and 77: hashes,
-- block data and signatures are bytes
unfoldable pub string_samples : List StringSample
string_samples =
    sample redirect true (0x0A ∷ 0x00 ∷ [])
    ∷ sample redirect true (0x0A ∷ 0x02 ∷ 0xC3 ∷ 0xA9 ∷ [])
    ∷ sample redirect false (0x0A ∷ 0x01 ∷ 0xC3 ∷ [])
    ∷ sample redirect false (0x0A ∷ 0x01 ∷ 0xFF ∷ [])
    ∷ sample redirect false (0x0A ∷ 0x01 ∷ 0xFF ∷ 0x0A ∷ 0x01 ∷ 0x75 ∷ [])
    ∷ sample redirect true (0x08 ∷ 0xFF ∷ 0x01 ∷ [])
    ∷ sample redirect true (0x1A ∷ 0x01 ∷ 0xFF ∷ [])
    ∷ sample session true (0x0A ∷ 0x02 ∷ 0xC3 ∷ 0xA9 ∷ [])
    ∷ sample session false (0x0A ∷ 0x01 ∷ 0xFF ∷ [])
    ∷ sample report_subscribe false (0x12 ∷ 0x01 ∷ 0xFF ∷ [])
    ∷ sample report_subscribe false (0x22 ∷ 0x01 ∷ 0xFF ∷ [])
    ∷ sample report_subscribe true (0x12 ∷ 0x01 ∷ 0x78 ∷ [])
    ∷ sample report_subscribe false (0x12 ∷ 0x01 ∷ 0xFF ∷ 0x12 ∷ 0x01 ∷ 0x37 ∷ [])
    ∷ sample report_subscribe true (0x2A ∷ 0x01 ∷ 0xFF ∷ [])
    ∷ sample transfer_request false (0x0A ∷ 0x03 ∷ 0x0A ∷ 0x01 ∷ 0xFF ∷ [])
    ∷ sample transfer_request false (0x0A ∷ 0x03 ∷ 0x12 ∷ 0x01 ∷ 0xFF ∷ [])
    ∷ sample transfer_request false (0x0A ∷ 0x03 ∷ 0x0A ∷ 0x01 ∷ 0xFF ∷ 0x0A ∷ 0x03 ∷ 0x0A ∷ 0x01 ∷ 0x41 ∷ [])
    ∷ sample transfer_request false (0x0A ∷ 0x03 ∷ 0x0A ∷ 0x01 ∷ 0xC3 ∷ 0x0A ∷ 0x03 ∷ 0x0A ∷ 0x01 ∷ 0xA9 ∷ [])
    ∷ sample transfer_request true (0x0A ∷ 0x03 ∷ 0x1A ∷ 0x01 ∷ 0xFF ∷ [])
    ∷ sample transfer_request true (0x12 ∷ 0x01 ∷ 0xFF ∷ [])
    ∷ sample transfer_request false (0x1A ∷ 0x01 ∷ 0xFF ∷ [])
    ∷ sample transfer_request false (0x22 ∷ 0x01 ∷ 0xFF ∷ [])
    ∷ sample image_block true (0x0A ∷ 0x01 ∷ 0xFF ∷ 0x22 ∷ 0x01 ∷ 0xFF ∷ [])
    ∷ sample load_request true (0x0A ∷ 0x01 ∷ 0xFF ∷ [])
    ∷ sample image_hash true (0x0A ∷ 0x01 ∷ 0xFF ∷ [])
    ∷ sample signature true (0x0A ∷ 0x01 ∷ 0xFF ∷ [])
    ∷ []

abbrev pub StringsJudged : Type 0
StringsJudged = map (λ (x : StringSample). readable x.table x.bytes) string_samples ≡ map (λ (x : StringSample). x.readable) string_samples
