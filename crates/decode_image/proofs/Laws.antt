-- Laws of the readers: what the code finds by the numbers of a table is what the table says, by name.
use Rattle.std.specs.Prelude.{Option}
use Prim.Native.Nat.{ℕ}
use mathlib.Core.Path.{◌≡◌}
use mathlib.Core.List.{List}
use lib.ListN.{get_or}
use Rattle.message.specs.Read.{number_of, place_of, read_into, Scanned}
use Rattle.message.specs.declared.Reading.{Reading}
use Rattle.tables.specs.Found.{rows_of, none_found, cells_of, held_cells}
use Rattle.tables.proofs.Theorems.{told-by, found-by}
use Rattle.csmp.specs.Tables.{transfer_request, image_block, load_request, image_hash}
use Rattle.csmp.specs.Values.{moment_of}
use Rattle.csmp.proofs.Formed.{image-hash-formed, load-request-formed, image-block-formed, transfer-request-formed}
use Rattle.decode_image.specs.Read.{transfer_of, block_of, load_of, hash_of}
use Rattle.protobuf.specs.declared.Span.{Span}
use Rattle.schedule.specs.declared.Point.{Point}

-- 69, 70
module _ (v : List ℕ) {table cells left : List ℕ} {r : Reading} (p : table ≡ rows_of image_hash) (q : cells ≡ cells_of image_hash (none_found image_hash))
    (x : Scanned (read_into table cells v) r left) where
  pub hash-by : {hash : Option Span}
      → hash ≡ place_of (get_or left 0 0) (get_or left 1 0) (get_or left 2 0)
      → record { reading = r; hash = hash } ≡ hash_of v
  unfolding hash_of cells_of held_cells
  hash-by e0 = rw (told-by image_hash image-hash-formed v p q x, e0, found-by image_hash image-hash-formed v p q x)

-- 68
module _ (v : List ℕ) {table cells left : List ℕ} {r : Reading} (p : table ≡ rows_of load_request) (q : cells ≡ cells_of load_request (none_found load_request))
    (x : Scanned (read_into table cells v) r left) where
  pub load-by : {hash : Option Span} {time : Option Point}
      → hash ≡ place_of (get_or left 0 0) (get_or left 1 0) (get_or left 2 0)
      → time ≡ moment_of (number_of (get_or left 3 0) (get_or left 4 0))
      → record { reading = r; hash = hash; time = time } ≡ load_of v
  unfolding load_of cells_of held_cells
  load-by e0 e1 = rw (told-by load_request load-request-formed v p q x, e0, e1, found-by load_request load-request-formed v p q x)

-- 67
module _ (v : List ℕ) {table cells left : List ℕ} {r : Reading} (p : table ≡ rows_of image_block) (q : cells ≡ cells_of image_block (none_found image_block))
    (x : Scanned (read_into table cells v) r left) where
  pub block-by : {hash : Option Span} {number : Option ℕ} {block : Option Span}
      → hash ≡ place_of (get_or left 0 0) (get_or left 1 0) (get_or left 2 0)
      → number ≡ number_of (get_or left 3 0) (get_or left 4 0)
      → block ≡ place_of (get_or left 6 0) (get_or left 7 0) (get_or left 8 0)
      → record { reading = r; hash = hash; number = number; «data» = block } ≡ block_of v
  unfolding block_of cells_of held_cells
  block-by e0 e1 e2 = rw (told-by image_block image-block-formed v p q x, e0, e1, e2, found-by image_block image-block-formed v p q x)

-- 65
module _ (v : List ℕ) {table cells left : List ℕ} {r : Reading} (p : table ≡ rows_of transfer_request) (q : cells ≡ cells_of transfer_request (none_found transfer_request))
    (x : Scanned (read_into table cells v) r left) where
  pub transfer-by : {hw-id : Option Span} {vendor-hw-id : Option Span} {hash : Option Span} {name : Option Span} {version : Option Span} {size : Option ℕ} {block-size : Option ℕ}
      → hw-id ≡ place_of (get_or left 3 0) (get_or left 4 0) (get_or left 5 0)
      → vendor-hw-id ≡ place_of (get_or left 6 0) (get_or left 7 0) (get_or left 8 0)
      → hash ≡ place_of (get_or left 9 0) (get_or left 10 0) (get_or left 11 0)
      → name ≡ place_of (get_or left 12 0) (get_or left 13 0) (get_or left 14 0)
      → version ≡ place_of (get_or left 15 0) (get_or left 16 0) (get_or left 17 0)
      → size ≡ number_of (get_or left 18 0) (get_or left 19 0)
      → block-size ≡ number_of (get_or left 21 0) (get_or left 22 0)
      → record { reading = r; hw_id = hw-id; vendor_hw_id = vendor-hw-id; hash = hash; name = name; version = version; size = size; block_size = block-size } ≡ transfer_of v
  unfolding transfer_of cells_of held_cells
  transfer-by e0 e1 e2 e3 e4 e5 e6 = rw (told-by transfer_request transfer-request-formed v p q x, e0, e1, e2, e3, e4, e5, e6, found-by transfer_request transfer-request-formed v p q x)
