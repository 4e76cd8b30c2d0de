-- Laws of writing a capture: what its numbers, its rows and its trailer read as.
use Rattle.std.specs.Prelude.{Some}
use Prim.Native.Nat.{ℕ, ◌+◌, ◌*◌, ◌-◌, ◌≤◌}
use mathlib.Core.Path.{◌≡◌, refl, sym, ap, ◌∙◌}
use mathlib.Core.List.{List, [], ◌∷◌, ◌++◌, append_assoc}
use native.Mathlib.Omega.{arith}
use lib.ListN.{length, drop, length-append}
use lib.Seq.{take-append_seam, drop-append_seam, drop_at}
use Rattle.capture.specs.Read.{byte_at, wide16, wide32, entry_in, bytes_at, end_from, indexed, capture_in, entries_from}
use Rattle.capture.specs.Write.{Item, bytes16, bytes32, datagrams, row_of, rows, written, items_from}
use Rattle.capture.specs.declared.Entry.{Entry}
use Rattle.capture.proofs.Laws.{ends_more, ends-none, index-there, capture-is}

-- numbers, whatever follows
pub wide16-back : (n : ℕ) (r : List ℕ) → wide16 (bytes16 n ++ r) ≡ n
unfolding wide16 bytes16 byte_at
wide16-back n r = omega arith

pub wide32-back : (n : ℕ) (r : List ℕ) → wide32 (bytes32 n ++ r) ≡ n
unfolding wide32 bytes32 wide16 bytes16 byte_at
wide32-back n r = omega arith

-- a row, whatever follows
module _ (i : Item) (r : List ℕ) where
  row_last : byte_at (row_of i ++ r) 7 ≡ 0
  unfolding row_of bytes32 bytes16 byte_at
  row_last = refl

  row-verdict : byte_at (row_of i ++ r) 6 ≡ i.verdict
  unfolding row_of bytes32 bytes16 byte_at
  row-verdict = refl

  row-time : wide32 (row_of i ++ r) ≡ i.time.0
  unfolding row_of
  row-time = rw (append_assoc (bytes32 i.time.0) (bytes16 (length i.bytes) ++ (i.verdict ∷ 0 ∷ [])) r) (wide32-back i.time.0 ((bytes16 (length i.bytes) ++ (i.verdict ∷ 0 ∷ [])) ++ r))

  row-length : wide16 (drop 4 (row_of i ++ r)) ≡ length i.bytes
  unfolding row_of bytes32 bytes16
  row-length = wide16-back (length i.bytes) (i.verdict ∷ 0 ∷ r)

  row-behind : drop 8 (row_of i ++ r) ≡ r
  unfolding row_of bytes32 bytes16
  row-behind = refl

  pub entry-back : ◌≡◌ {A = Entry} (entry_in (row_of i ++ r)) (record { time = i.time; verdict = i.verdict; len = length i.bytes })
  unfolding entry_in
  entry-back = rw (row-time, row-verdict, row-length)

row-long : (i : Item) → length (row_of i) ≡ 8
unfolding row_of bytes32 bytes16
row-long i = refl

pub rows_long : (is : List Item) → length (rows is) ≡ length is * 8
unfolding rows
rows_long [] = refl
rows_long (i ∷ is) =
    let a = length-append (row_of i) (rows is) in
    let b = row-long i in
    let c = rows_long is in
    omega arith

-- the lengths of the rows sum to all datagrams
pub ends-back : (is : List Item) (r : List ℕ) (at : ℕ) → end_from (length is) (rows is ++ r) at ≡ Some (at + length (datagrams is))
unfolding rows datagrams
ends-back [] r at = ends-none r at ∙ ap Some (omega arith)
ends-back (i ∷ is) r at =
    let n : at + length i.bytes + length (datagrams is) ≡ at + length (i.bytes ++ datagrams is) = simp length-append (omega arith) in
    rw (append_assoc (row_of i) (rows is) r, ends_more (length is) (row_of i ++ (rows is ++ r)) at (row_last i (rows is ++ r)), row-length i (rows is ++ r), row-behind i (rows is ++ r), ends-back is r (at + length i.bytes), n)

-- the items from a place on, where `front` holds the datagrams before it
bytes_back : (front b r : List ℕ) → bytes_at (front ++ (b ++ r)) (length front) (length b) ≡ b
unfolding bytes_at
bytes_back front b r = rw (drop-append_seam front (b ++ r), take-append_seam b r)

pub items_back : (front : List ℕ) (is : List Item) (rest r : List ℕ)
    → items_from (front ++ (datagrams is ++ rest)) (length front) (entries_from (length is) (rows is ++ r)) ≡ is
unfolding rows datagrams entries_from items_from
items_back front [] rest r = refl
items_back front (i ∷ is) rest r =
    ap (λ (d : List ℕ). items_from (front ++ d) (length front) (entries_from (length (i ∷ is)) (rows (i ∷ is) ++ r))) (append_assoc i.bytes (datagrams is) rest)
    ∙ rw (append_assoc (row_of i) (rows is) r, entry-back i (rows is ++ r), row-behind i (rows is ++ r), bytes_back front i.bytes (datagrams is ++ rest))
    (ap (λ (l : List Item). i ∷ l) (step front i.bytes (datagrams is ++ rest) (items_back (front ++ i.bytes) is rest r)))
  where
    step : (front b t : List ℕ) → items_from ((front ++ b) ++ t) (length (front ++ b)) (entries_from (length is) (rows is ++ r)) ≡ is
        → items_from (front ++ (b ++ t)) (length front + length b) (entries_from (length is) (rows is ++ r)) ≡ is
    step front b t h = rw (← append_assoc front b t, ← length-append front b) h

-- the trailer
module _ (is : List Item) where
  abbrev trailer : List ℕ
  trailer = bytes32 (length is * 8 + 6) ++ bytes16 (length is)

  trailer-long : length trailer ≡ 6
  unfolding bytes32 bytes16
  trailer-long = refl

  trailer-count : drop 4 trailer ≡ bytes16 (length is) ++ []
  unfolding bytes32 bytes16
  trailer-count = refl

  written-long : length (written is) ≡ length (datagrams is) + (length is * 8 + 6)
  unfolding written
  written-long =
      let a = length-append (datagrams is) (rows is ++ trailer) in
      let b = length-append (rows is) trailer in
      let c = rows_long is in
      let d = trailer-long in
      omega arith

  written-trailer : drop (length (written is) - 6) (written is) ≡ trailer
  unfolding written
  written-trailer =
      let a = written-long in
      let b = length-append (datagrams is) (rows is) in
      let c = rows_long is in
      ap (drop (length (written is) - 6)) (sym (append_assoc (datagrams is) (rows is) trailer)) ∙ drop_at (datagrams is ++ rows is) trailer (length (written is) - 6) (omega arith)

  written-index : drop (length (datagrams is)) (written is) ≡ rows is ++ trailer
  unfolding written
  written-index = drop-append_seam (datagrams is) (rows is ++ trailer)

  pub capture-back : length (written is) ≤ 65536 → capture_in (written is) ≡ indexed (length (datagrams is)) (length is)
  capture-back h =
      let n = written-long in
      let at : length (written is) - (length is * 8 + 6) ≡ length (datagrams is) = omega arith in
      let c = capture-is (written is) (omega arith) h {distance = length is * 8 + 6} {count = length is} refl (sym (wide32-back (length is * 8 + 6) (bytes16 (length is))) ∙ ap wide32 (sym written-trailer)) refl (sym (wide16-back (length is) []) ∙ ap wide16 (sym (ap (drop 4) written-trailer ∙ trailer-count))) refl (omega arith) in
      (rw at at c) ∙ sym (index-there (written is) (length (datagrams is)) (length is) (sym written-index) refl (length (datagrams is)) (ends-back is trailer 0 ∙ ap Some (omega arith)) refl)

  pub written-items : items_from (written is) 0 (entries_from (length is) (drop (length (datagrams is)) (written is))) ≡ is
  unfolding written
  written-items = rw written-index (items_back [] is (rows is ++ trailer) trailer)
