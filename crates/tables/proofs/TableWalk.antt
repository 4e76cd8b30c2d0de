-- The walk by a table's numbers finds what the table says.
use Prim.Native.Nat.{ℕ, zero, suc, ◌+◌, ◌-◌, ◌≤◌}
use mathlib.Core.Path.{◌≡◌, refl, sym, ap}
use mathlib.Core.List.{List, [], ◌∷◌, ◌++◌, map, append-nil, append_assoc}
use mathlib.Core.Bool.{Bool, true, false, ◌&&◌, ◌||◌, and-true, and_assoc, or-false, or_assoc}
use native.Mathlib.Nat.{zero-add, suc-add}
use native.Mathlib.Omega.{arith}
use borrow.Author.Tests.{eq-eqb, ne_eqb, eqb-true, eqb-false}
use lib.Dec.{eqb, ltb}
use lib.ListN.{length, set, take, drop, length-append}
use lib.Seq.{take_at, drop_at, get_or_at, set_at, get_or-append_seam, get_or-append-add}
use Rattle.buffer.specs.Pick.{pick}
use Rattle.buffer.specs.Walk.{walk}
use Rattle.protobuf.specs.Field.{fields, bytes_of}
use Rattle.message.proofs.RowLaws.{row_found}
use Rattle.message.specs.Read.{wire_of, row_step, first_row, row_in, first_of, noted, unpadded, scanned, plain_read, held_read, known_read, field_read, read_all}
use Rattle.message.specs.Read.{joined, message_read, read_into}
use Rattle.utf8.specs.Utf8.{is_utf8}
use Rattle.tables.specs.Table.{Kind, uint32, bool, bytes, string, strings, message, messages, Table, end, row, Content, content_of, contents}
use Rattle.tables.specs.Table.{held_tells, field_tells, all_readable, readable_to, readable, never, any_padded, padded_to, padded}
use Rattle.tables.specs.Found.{kind_number, wire_of_kind, held_rows, rows_of, Cell, Held, Found, none_found, Placed, placed_at, placed, cell_with}
use Rattle.tables.specs.Found.{each_in, held_with, found_with, found_in, held_cells, cells_of, reading_of}
use Rattle.tables.specs.Statements.{OrderedKind, Ordered, kind_levels, levels}
use Rattle.protobuf.specs.declared.Field.{Field}
use Rattle.message.specs.declared.Reading.{Reading}
use Rattle.buffer.proofs.Tests.{split}
use Rattle.tables.proofs.TableReadable.{levels-some}
use Rattle.message.proofs.RowLaws.{rows_end, rows_more}

-- there is a number found for each number of a table
mutual
  unfolding rows_of held_rows cells_of held_cells

  held-length : (k : Kind) (h : Held k) → length (held_cells k h) ≡ length (held_rows k)
  held-length uint32 h = refl
  held-length bool h = refl
  held-length bytes h = refl
  held-length string h = refl
  held-length strings h = refl
  held-length (message T) h = cells-length T h
  held-length (messages T) h = cells-length T h

  pub cells-length : (T : Table) (g : Found T) → length (cells_of T g) ≡ length (rows_of T)
  cells-length end g = refl
  cells-length (row n k T) g =
      let x = held-length k g.0.1 in
      let y = cells-length T g.1 in
      simp length-append (omega arith)

-- a row in a table, a row's cell, and both in what is found
abbrev row_with : ℕ → Kind → List ℕ → List ℕ
row_with n k rest = n ∷ kind_number k ∷ length (held_rows k) ∷ (held_rows k ++ rest)

abbrev cell_then : Cell → List ℕ → List ℕ
cell_then c rest = c.count ∷ c.first ∷ c.stop ∷ rest

abbrev cells_with : (k : Kind) → Cell × Held k → List ℕ → List ℕ
cells_with k x rest = cell_then x.0 (held_cells k x.1 ++ rest)

-- a store behind a front
set-add : (front l : List ℕ) (i n v : ℕ) → length front ≡ i → set (front ++ l) (i + n) v ≡ front ++ set l n v
set-add [] l i n v e = rw (← e, zero-add n)
set-add (x ∷ front) l i n v e = rw (← e, suc-add (length front) n, set-add front l (length front) n v refl)

-- a field is noted in the cell behind a front
noted-at : (front : List ℕ) (c : Cell) (rest : List ℕ) (i base : ℕ) (s : List ℕ) (f : Field) → length front ≡ i
    → noted (front ++ cell_then c rest) i base f ≡ front ++ cell_then (cell_with c (placed_at base s f)) rest
unfolding noted first_of cell_with
noted-at front c rest i base s f e =
    let x = cell_with c (placed_at base s f) in
    rw (
      get_or_at front c.count (c.first ∷ c.stop ∷ rest) 0 i e,
      set_at front c.count (c.first ∷ c.stop ∷ rest) x.count i e,
      set-add front (x.count ∷ c.first ∷ c.stop ∷ rest) i 1 x.first e,
      set-add front (x.count ∷ x.first ∷ c.stop ∷ rest) i 2 x.stop e,
    )

-- the part between what stands before it and what follows, and what follows
module _ (front x rest : List ℕ) (a e : ℕ) (h : length front ≡ a) (k : length x + a ≡ e) where
  part_of : take (e - a) (drop a (front ++ (x ++ rest))) ≡ x
  part_of = rw (drop_at front (x ++ rest) a h) (take_at x rest (e - a) (omega arith))

  part-after : drop e (front ++ (x ++ rest)) ≡ rest
  part-after = rw (← append_assoc front x rest) (drop_at (front ++ x) rest e (simp length-append (omega arith)))

-- a field whose number is below those of the rows leaves what was found
found-later : (T : Table) (b : ℕ) (g : Found T) (p : Placed) → Ordered b T → p.content.number ≤ b → found_with T g p ≡ g
unfolding found_with
found-later end b g p o h = refl
found-later (row n k T) b g p o h =
    rw (ne_eqb p.content.number n (omega arith)) (ap (λ (x : Found T). (g.0, x)) (found-later T n g.1 p o.3 (omega arith)))

-- a field with another wire type is not read further
kind-other : (none : Bool) (text : List ℕ → Bool) (read : Table → List ℕ → Bool) (k : Kind) (c : Content) → (c.wire ≡ wire_of_kind k → ⊥)
    → held_tells none text read k c ≡ none
unfolding held_tells wire_of
kind-other none text read uint32 c h = refl
kind-other none text read bool c h = refl
kind-other none text read bytes c h = refl
kind-other none text read string c h = rw (ne_eqb c.wire 2 h)
kind-other none text read strings c h = rw (ne_eqb c.wire 2 h)
kind-other none text read (message U) c h = rw (ne_eqb c.wire 2 h)
kind-other none text read (messages U) c h = rw (ne_eqb c.wire 2 h)

-- what is told of a message of at most d levels, of what a row's field holds, and of a field
abbrev told_to : ℕ → Table → List ℕ → Reading
told_to d T s = record { readable = readable_to d T s; padded = padded_to d T s }

abbrev told_of : ℕ → Kind → Content → Reading
told_of d k c = record { readable = held_tells true is_utf8 (readable_to d) k c; padded = held_tells false never (padded_to d) k c }

abbrev told_by : ℕ → Table → Content → Reading
told_by d T c = record { readable = field_tells true is_utf8 (readable_to d) T c; padded = field_tells false never (padded_to d) T c }

-- what is proved of the messages of at most d levels
abbrev Walks : ℕ → Type 0
Walks d =
    (T : Table) (g : Found T) (base : ℕ) (s : List ℕ) → Ordered 0 T → levels T ≤ d
    → message_read d (rows_of T) (cells_of T g) base s ≡ scanned (told_to d T s) (cells_of T (each_in (found_with T) g (placed base s)))

module _ (d : ℕ) (ih : Walks d) where
  -- one row, behind as many numbers of the table as were found
  module _ (front cfront rest crest : List ℕ) (n : ℕ) (same : length cfront ≡ length front) where
    -- a message that a field holds is read by its own rows, into its own place
    held-part : (U : Table) (g : Found U) (c : Cell) (k m base : ℕ) (bs : List ℕ) → Ordered 0 U → levels U ≤ d
        → held_read (message_read d) (front ++ (n ∷ k ∷ m ∷ (rows_of U ++ rest))) (cfront ++ cell_then c (cells_of U g ++ crest))
        (length front + 3) (length front + 3 + length (rows_of U)) base bs
        ≡ scanned (told_to d U bs) (cfront ++ cell_then c (cells_of U (each_in (found_with U) g (placed base bs)) ++ crest))
    unfolding held_read
    held-part U g c k m base bs o l =
        let a = length front + 3 in
        let e = a + length (rows_of U) in
        let y = cells_of U g in
        let lead = front ++ (n ∷ k ∷ m ∷ []) in
        let clead = cfront ++ cell_then c [] in
        let z = cells-length U g in
        let p : length lead ≡ a = simp length-append (omega arith) in
        let q : length clead ≡ a = simp length-append (omega arith) in
        rw (
          ← append_assoc front (n ∷ k ∷ m ∷ []) (rows_of U ++ rest),
          ← append_assoc cfront (cell_then c []) (y ++ crest),
          part_of lead (rows_of U) rest a e p (omega arith),
          part_of clead y crest a e q (omega arith),
          take_at clead (y ++ crest) a q,
          part-after clead y crest a e q (omega arith),
          ih U g base bs o l,
          append_assoc cfront (cell_then c []) (cells_of U (each_in (found_with U) g (placed base bs)) ++ crest),
        )

    module _ (base : ℕ) (s : List ℕ) (f : Field) where
      -- a field with the wire type of its row's kind is read further where that holds a text or a message
      kind-held : (k : Kind) (h : Held k) (c : Cell) → OrderedKind k → kind_levels k ≤ d → f.wire ≡ wire_of_kind k
          → pick (ltb (kind_number k) 11) (scanned (plain_read (kind_number k) (bytes_of s f)) (cfront ++ cells_with k (c, h) crest))
          (held_read (message_read d) (front ++ row_with n k rest) (cfront ++ cells_with k (c, h) crest)
          (length front + 3) (length front + 3 + length (held_rows k)) (base + f.start) (bytes_of s f))
          ≡ scanned (told_of d k (content_of s f)) (cfront ++ cells_with k (c, held_with k h (placed_at base s f)) crest)
      unfolding plain_read held_tells wire_of held_rows held_cells held_with
      kind-held uint32 h c o l w = refl
      kind-held bool h c o l w = refl
      kind-held bytes h c o l w = refl
      kind-held string h c o l w = rw (eq-eqb f.wire 2 w)
      kind-held strings h c o l w = rw (eq-eqb f.wire 2 w)
      kind-held (message U) h c o l w = rw (eq-eqb f.wire 2 w) (held-part U h c 11 (length (rows_of U)) (base + f.start) (bytes_of s f) o l)
      kind-held (messages U) h c o l w = rw (eq-eqb f.wire 2 w) (held-part U h c 12 (length (rows_of U)) (base + f.start) (bytes_of s f) o l)

      -- a field, by the row of its number
      this-row : (k : Kind) (x : Cell × Held k) → OrderedKind k → kind_levels k ≤ d
          → known_read (message_read d) (front ++ row_with n k rest) (cfront ++ cells_with k x crest) base s f
          (row_found n (kind_number k) (length front) (length front + 3 + length (held_rows k)))
          ≡ scanned (told_of d k (content_of s f))
          (cfront ++ cells_with k (pick (eqb f.wire (wire_of_kind k)) (cell_with x.0 (placed_at base s f), held_with k x.1 (placed_at base s f)) x) crest)
      unfolding known_read
      this-row k x o l =
          let w = wire_of_kind k in
          split (eqb f.wire w)
          (λ h. let q = eqb-true f.wire w h in
          rw (h, eq-eqb w f.wire (sym q), noted-at cfront x.0 (held_cells k x.1 ++ crest) (length front) base s f same)
          (kind-held k x.1 (cell_with x.0 (placed_at base s f)) o l q))
          (λ h. let q = eqb-false f.wire w h in rw (h, ne_eqb w f.wire (λ r. q (sym r)), kind-other true is_utf8 (readable_to d) k (content_of s f) q, kind-other false never (padded_to d) k (content_of s f) q))

  module _ (base : ℕ) (s : List ℕ) (f : Field) where
    -- a field, by the rows behind a front
    field-from : (T : Table) (b : ℕ) (g : Found T) (front cfront : List ℕ) → length cfront ≡ length front → Ordered b T → levels T ≤ suc d
        → known_read (message_read d) (front ++ rows_of T) (cfront ++ cells_of T g) base s f
        (first_row f.number (walk row_step (front ++ rows_of T) (length front)).items)
        ≡ scanned (told_by d T (content_of s f)) (cfront ++ cells_of T (found_with T g (placed_at base s f)))
    unfolding rows_of cells_of found_with field_tells known_read
    field-from end b g front cfront same o l = rw (append-nil front, rows_end front f.number (length front) (omega arith))
    field-from (row n k T) b g front cfront same o l =
        let m = f.number in
        let p = placed_at base s f in
        let i = length front in
        let len = length (held_rows k) in
        let this = row_with n k (rows_of T) in
        let fit : i + 3 + len ≤ length (front ++ this) = simp length-append (omega arith) in
        rw (
          rows_more (front ++ this) m i len (sym (get_or-append-add front this 2 0)) fit,
          get_or-append_seam front n (kind_number k ∷ len ∷ (held_rows k ++ rows_of T)) 0,
          get_or-append-add front this 1 0,
        )
        (split (eqb m n)
        (λ h. let q = eqb-true m n h in
        rw (h, eq-eqb n m (sym q), found-later T n g.1 p o.3 (omega arith))
        (this-row front cfront (rows_of T) (cells_of T g.1) n same base s f k g.0 o.2 (omega arith)))
        (λ h. let r = n ∷ kind_number k ∷ len ∷ held_rows k in
        let c = cell_then g.0.0 (held_cells k g.0.1) in
        let z : length (front ++ r) ≡ i + 3 + len = simp length-append (omega arith) in
        let y = held-length k g.0.1 in
        rw (
          h,
          ne_eqb n m (λ q. eqb-false m n h (sym q)),
          ← z,
          ← append_assoc front r (rows_of T),
          ← append_assoc cfront c (cells_of T g.1),
          ← append_assoc cfront c (cells_of T (found_with T g.1 p)),
        )
        (field-from T n g.1 (front ++ r) (cfront ++ c) (simp length-append (omega arith)) o.3 (omega arith))))

  module _ (T : Table) (base : ℕ) (s : List ℕ) (o : Ordered 0 T) (l : levels T ≤ suc d) where
    -- a field, by a whole table
    field-read : (g : Found T) (f : Field)
        → field_read (message_read d) (rows_of T) (cells_of T g) base s f
        ≡ scanned (told_by d T (content_of s f)) (cells_of T (found_with T g (placed_at base s f)))
    unfolding field_read row_in
    field-read g f = field-from base s f T 0 g [] [] refl o l

    -- the fields one by one
    all_read : (g : Found T) (t : Reading) (w : Bool) (fs : List Field)
        → read_all (message_read d) (rows_of T) base s t (cells_of T g) w fs
        ≡ scanned
        (record {
          readable = w && (t.readable && all_readable (readable_to d) T (map (content_of s) fs));
          padded = t.padded || any_padded (padded_to d) T (map (content_of s) fs);
        })
        (cells_of T (each_in (found_with T) g (map (placed_at base s) fs)))
    unfolding read_all all_readable any_padded each_in
    all_read g t w [] = rw (and-true t.readable, or-false t.padded)
    all_read g t w (f ∷ fs) =
        let r = told_by d T (content_of s f) in
        rw (
          field-read g f,
          all_read (found_with T g (placed_at base s f)) (joined t f.padded r) w fs,
          and_assoc t.readable r.readable (all_readable (readable_to d) T (map (content_of s) fs)),
          or_assoc t.padded (f.padded || r.padded) (any_padded (padded_to d) T (map (content_of s) fs)),
        )

-- a message of at most so many levels
walks-to : (d : ℕ) → Walks d
unfolding message_read readable_to padded_to contents placed
walks-to zero T g base s o l = absurd (let z = levels-some T in omega arith)
walks-to (suc d) T g base s o l = all_read d (walks-to d) T base s o l g (unpadded true) (fields s).whole (fields s).items

-- the walk by a table's numbers says whether a value can be read by the table and is padded, and finds what the table says
pub walks : (T : Table) (s : List ℕ) → Ordered 0 T → levels T ≤ 4
    → read_into (rows_of T) (cells_of T (none_found T)) s ≡ scanned (reading_of T s) (cells_of T (found_in T s))
unfolding read_into readable padded found_in
walks T s o l =
    rw (eq-eqb (length (cells_of T (none_found T))) (length (rows_of T)) (cells-length T (none_found T))) (walks-to 4 T (none_found T) 0 s o l)
