-- Laws of a file that is a capture: its numbers, its rows, its datagrams and its trailer are what its items are written as.
use Rattle.std.specs.Prelude.{None, Option, Some}
use Prim.Native.Nat.{ℕ, zero, suc, ◌+◌, ◌*◌, ◌-◌, ◌/◌, ◌%◌, ◌≤◌, ◌<◌}
use mathlib.Core.Path.{◌≡◌, refl, sym, ap, ◌∙◌}
use mathlib.Core.List.{List, [], ◌∷◌, ◌++◌}
use mathlib.Core.Bool.{true, ◌&&◌}
use native.Mathlib.Omega.{arith}
use native.Mathlib.Nat.{sub-zero}
use borrow.Author.Tests.{eqb-true, eqb-false, leb-true}
use lib.Dec.{eqb, leb}
use lib.ListN.{length, take, drop, length-drop, take-append-drop}
use lib.Seq.{length-take-le, take-add, take_all, get_or-drop, drop-drop}
use Rattle.buffer.proofs.Tests.{split, both}
use Rattle.capture.specs.Read.{byte_at, wide16, wide32, entry_in, bytes_at, end_from, indexed, index_in, trailer_of, distance_in, count_in, framed, capture_in, entries_from}
use Rattle.capture.specs.Write.{bytes16, bytes32, datagrams, row_of, rows, Item, written, items_from}
use Rattle.capture.specs.declared.Entry.{Entry}
use Rattle.capture.specs.declared.Index.{Index}
use Rattle.capture.proofs.Laws.{ends_more, ends-bad, ends-none}
use Rattle.writes_back.proofs.Bytes.{Bytes, bytes_drop}

-- the item of an entry whose datagram begins at `at`
unfoldable item_at : List ℕ → ℕ → Entry → Item
item_at s at e = record { time = e.time; verdict = e.verdict; bytes = bytes_at s at e.len }

-- numbers
first_two : (s : List ℕ) → 2 ≤ length s → take 2 s ≡ byte_at s 0 ∷ byte_at s 1 ∷ []
unfolding byte_at
first_two [] h = absurd (omega arith)
first_two (a ∷ []) h = absurd (omega arith)
first_two (a ∷ b ∷ s) h = refl

wide16-small : (s : List ℕ) → Bytes s → wide16 s < 65536
unfolding wide16
wide16-small s b = omega (arith, b 0, b 1)

wide16-whole : (s : List ℕ) → Bytes s → 2 ≤ length s → bytes16 (wide16 s) ≡ take 2 s
unfolding wide16 bytes16
wide16-whole s b h =
    let e : (byte_at s 0 * 256 + byte_at s 1) / 256 ≡ byte_at s 0 = omega (arith, b 0, b 1) in
    let f : (byte_at s 0 * 256 + byte_at s 1) % 256 ≡ byte_at s 1 = omega (arith, b 0, b 1) in
    rw (first_two s h, e, f)

wide32-whole : (s : List ℕ) → Bytes s → 4 ≤ length s → bytes32 (wide32 s) ≡ take 4 s
unfolding wide32 bytes32
wide32-whole s b h =
    let d = bytes_drop 2 s b in
    let k = wide16-small (drop 2 s) d in
    let e : (wide16 s * 65536 + wide16 (drop 2 s)) / 65536 ≡ wide16 s = omega arith in
    let f : (wide16 s * 65536 + wide16 (drop 2 s)) % 65536 ≡ wide16 (drop 2 s) = omega arith in
    let l : 2 ≤ length (drop 2 s) = simp length-drop (omega arith) in
    rw (e, f, wide16-whole s b (omega arith), wide16-whole (drop 2 s) d l) (sym (take-add 2 2 s))

-- a row, where its last byte is 0 and the item's datagram is as long as it says
module _ (r : List ℕ) (b : Bytes r) (h : 8 ≤ length r) (z : byte_at r 7 ≡ 0) where
  row-end : take 2 (drop 6 r) ≡ byte_at r 6 ∷ 0 ∷ []
  unfolding byte_at
  row-end =
      let l : 2 ≤ length (drop 6 r) = simp length-drop (omega arith) in
      rw (first_two (drop 6 r) l, get_or-drop 6 r 0 0, get_or-drop 6 r 1 0, z)

  row_back : take 2 (drop 4 r) ++ take 2 (drop 6 r) ≡ take 4 (drop 4 r)
  row_back = ap (λ (l : List ℕ). take 2 (drop 4 r) ++ take 2 l) (sym (drop-drop 2 4 r)) ∙ sym (take-add 2 2 (drop 4 r))

  row-whole : (s : List ℕ) (at : ℕ) → length (bytes_at s at (wide16 (drop 4 r))) ≡ wide16 (drop 4 r) → row_of (item_at s at (entry_in r)) ≡ take 8 r
  unfolding row_of item_at entry_in
  row-whole s at e =
      let l : 2 ≤ length (drop 4 r) = simp length-drop (omega arith) in
      rw (e, wide32-whole r b (omega arith), wide16-whole (drop 4 r) (bytes_drop 4 r b) l)
      (ap (λ (v : List ℕ). take 4 r ++ (take 2 (drop 4 r) ++ v)) (sym row-end) ∙ ap (λ (v : List ℕ). take 4 r ++ v) row_back ∙ sym (take-add 4 4 r))

-- where a row's datagram ends, and that its last byte is 0
ends-step : (n : ℕ) (r : List ℕ) (at end : ℕ) → end_from (suc n) r at ≡ Some end → (byte_at r 7 ≡ 0) × (end_from n (drop 8 r) (at + wide16 (drop 4 r)) ≡ Some end)
ends-step n r at end e =
    split (eqb (byte_at r 7) 0)
    (λ t. let z = eqb-true (byte_at r 7) 0 t in (z, sym (ends_more n r at z) ∙ e))
    (λ t. let y : ◌≡◌ {A = ℕ} 0 1 = cc (ends-bad n r at (eqb-false (byte_at r 7) 0 t)) in absurd (omega arith))

-- the items of so many rows: their rows, their datagrams and how many there are
record Held (s : List ℕ) (n : ℕ) (r : List ℕ) (at end : ℕ) : Type 0 where
  order : at ≤ end
  places : rows (items_from s at (entries_from n r)) ≡ take (n * 8) r
  front : datagrams (items_from s at (entries_from n r)) ≡ take (end - at) (drop at s)
  count : length (items_from s at (entries_from n r)) ≡ n

module _ (s : List ℕ) (end : ℕ) (w : end ≤ length s) where
  held_none : (r : List ℕ) (at : ℕ) → Some at ≡ Some end → Held s zero r at end
  unfolding rows datagrams items_from entries_from
  held_none r at e =
      let f : at ≡ end = cc in
      let g : end - at ≡ 0 = omega arith in
      record { order = omega arith; places = refl; front = rw g; count = refl }

  module _ (r : List ℕ) (at : ℕ) (h : at + wide16 (drop 4 r) ≤ end) where
    bytes-long : length (bytes_at s at (wide16 (drop 4 r))) ≡ wide16 (drop 4 r)
    unfolding bytes_at
    bytes-long = length-take-le (wide16 (drop 4 r)) (drop at s) (simp length-drop (omega arith))

    bytes-front : bytes_at s at (wide16 (drop 4 r)) ++ take (end - (at + wide16 (drop 4 r))) (drop (at + wide16 (drop 4 r)) s) ≡ take (end - at) (drop at s)
    unfolding bytes_at
    bytes-front =
        let e : wide16 (drop 4 r) + (end - (at + wide16 (drop 4 r))) ≡ end - at = omega arith in
        rw (← drop-drop (wide16 (drop 4 r)) at s) (sym (take-add (wide16 (drop 4 r)) (end - (at + wide16 (drop 4 r))) (drop at s)) ∙ ap (λ (n : ℕ). take n (drop at s)) e)

  held_more : (n : ℕ) (r : List ℕ) (at : ℕ) → Bytes r → 8 ≤ length r → byte_at r 7 ≡ 0 → Held s n (drop 8 r) (at + wide16 (drop 4 r)) end
      → Held s (suc n) r at end
  unfolding rows datagrams items_from entries_from item_at entry_in
  held_more n r at b h z k =
      let o = k.order in
      let e : suc n * 8 ≡ 8 + n * 8 = omega arith in
      record {
        order = omega arith;
        places =
            ap (λ (v : List ℕ). row_of (item_at s at (entry_in r)) ++ v) k.places
            ∙ rw (e, row-whole r b h z s at (bytes-long r at o)) (sym (take-add 8 (n * 8) r));
        front = ap (λ (v : List ℕ). bytes_at s at (wide16 (drop 4 r)) ++ v) k.front ∙ bytes-front r at o;
        count = ap suc k.count;
      }

  held : (n : ℕ) (r : List ℕ) (at : ℕ) → Bytes r → n * 8 ≤ length r → end_from n r at ≡ Some end → Held s n r at end
  held zero r at b h e = held_none r at (sym (ends-none r at) ∙ e)
  held (suc n) r at b h e =
      let t = ends-step n r at end e in
      let l : n * 8 ≤ length (drop 8 r) = simp length-drop (omega arith) in
      held_more n r at b (omega arith) t.0 (held n (drop 8 r) (at + wide16 (drop 4 r)) (bytes_drop 8 r b) l t.1)

-- what a file is that is a capture
pub record Framed (s : List ℕ) (index count : ℕ) : Type 0 where
  pub long : length s ≡ index + (count * 8 + 6)
  pub distance : wide32 (trailer_of s) ≡ count * 8 + 6
  pub number : wide16 (drop 4 (trailer_of s)) ≡ count
  pub ends : end_from count (drop index s) 0 ≡ Some index

-- what a capture says, by its index
told : (i c index count : ℕ) → indexed i c ≡ indexed index count → (i ≡ index) × (c ≡ count)
told i c index count e =
    let f : ◌≡◌ {A = Index} (record { at = i; count = c }) (record { at = index; count = count }) = cc in
    (ap (λ (x : Index). x.at) f, ap (λ (x : Index). x.count) f)

index-told : (i c : ℕ) (r : Option ℕ) (index count : ℕ) → index_in i c r ≡ indexed index count → (i ≡ index) × (c ≡ count) × (r ≡ Some index)
unfolding index_in
index-told i c (Some end) index count e =
    split (eqb end i)
    (λ t. let k = eqb-true end i t in let f = told i c index count (rw t at e) in (f.0, f.1, ap Some (k ∙ f.0)))
    (λ t. let f : None ≡ indexed index count = rw t at e in let z : ◌≡◌ {A = ℕ} 0 1 = cc in absurd (omega arith))
index-told i c None index count e = let z : ◌≡◌ {A = ℕ} 0 1 = cc in absurd (omega arith)

capture-told : (s : List ℕ) (index count : ℕ) → capture_in s ≡ indexed index count
    → (framed s ≡ true) × (index_in (length s - distance_in s) (count_in s) (end_from (count_in s) (drop (length s - distance_in s) s) 0) ≡ indexed index count)
unfolding capture_in
capture-told s index count e =
    split (framed s)
    (λ t. (t, rw t at e))
    (λ t. let f : None ≡ indexed index count = rw t at e in let z : ◌≡◌ {A = ℕ} 0 1 = cc in absurd (omega arith))

framed-told : (s : List ℕ) → framed s ≡ true → (distance_in s ≡ count_in s * 8 + 6) × (distance_in s ≤ length s)
unfolding framed
framed-told s e =
    let a = both (leb 6 (length s)) (leb (length s) 65536 && (eqb (distance_in s) (count_in s * 8 + 6) && leb (distance_in s) (length s))) e in
    let b = both (leb (length s) 65536) (eqb (distance_in s) (count_in s * 8 + 6) && leb (distance_in s) (length s)) a.1 in
    let c = both (eqb (distance_in s) (count_in s * 8 + 6)) (leb (distance_in s) (length s)) b.1 in
    (eqb-true (distance_in s) (count_in s * 8 + 6) c.0, leb-true (distance_in s) (length s) c.1)

pub capture-framed : (s : List ℕ) (index count : ℕ) → capture_in s ≡ indexed index count → Framed s index count
unfolding distance_in count_in
capture-framed s index count e =
    let t = capture-told s index count e in
    let f = framed-told s t.0 in
    let i = index-told (length s - distance_in s) (count_in s) (end_from (count_in s) (drop (length s - distance_in s) s) 0) index count t.1 in
    let p = f.0 in
    let q = f.1 in
    let n = i.0 in
    let c = i.1 in
    record { long = omega arith; distance = rw c at p; number = c; ends = rw (n, c) at i.2 }

six-whole : (t : List ℕ) → Bytes t → length t ≡ 6 → bytes32 (wide32 t) ++ bytes16 (wide16 (drop 4 t)) ≡ t
six-whole t b h =
    let k : 2 ≤ length (drop 4 t) = simp length-drop (omega arith) in
    rw (wide32-whole t b (omega arith), wide16-whole (drop 4 t) (bytes_drop 4 t b) k) (sym (take-add 4 2 t) ∙ take_all 6 t (omega arith))

-- such a file is its datagrams, its rows and its trailer
module _ (s : List ℕ) (b : Bytes s) {index count : ℕ} (f : Framed s index count) where
  trailer-whole : bytes32 (count * 8 + 6) ++ bytes16 count ≡ drop (count * 8) (drop index s)
  unfolding trailer_of
  trailer-whole =
      let l = f.long in
      let n : length s - 6 ≡ index + count * 8 = omega arith in
      let m : length (drop (length s - 6) s) ≡ 6 = simp length-drop (omega arith) in
      let e : bytes32 (count * 8 + 6) ++ bytes16 count ≡ drop (length s - 6) s =
      rw (f.distance, f.number) at (six-whole (drop (length s - 6) s) (bytes_drop (length s - 6) s b) m) in
      e ∙ ap (λ (k : ℕ). drop k s) n ∙ sym (drop-drop (count * 8) index s)

  pub written-whole : written (items_from s 0 (entries_from count (drop index s))) ≡ s
  unfolding written
  written-whole =
      let l = f.long in
      let m : count * 8 ≤ length (drop index s) = simp length-drop (omega arith) in
      let h = held s index (omega arith) count (drop index s) 0 (bytes_drop index s b) m f.ends in
      let r : take (count * 8) (drop index s) ++ (bytes32 (count * 8 + 6) ++ bytes16 count) ≡ drop index s = rw trailer-whole (take-append-drop (count * 8) (drop index s)) in
      rw (h.places, h.front, h.count, r, sub-zero index) (take-append-drop index s)
