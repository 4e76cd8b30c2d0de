-- Laws of the rows of a table: one at a time, and where they lie.
use Rattle.std.specs.Prelude.{None, Option, Some}
use Prim.Native.Nat.{ℕ, ◌+◌, ◌≤◌, ◌<◌}
use mathlib.Core.Path.{◌≡◌, refl, subst, ◌∙◌}
use mathlib.Core.List.{List, [], ◌∷◌}
use native.Mathlib.Omega.{arith}
use borrow.Author.Tests.{eq-eqb, ne_eqb}
use lib.Dec.{eqb}
use lib.ListN.{length, get_or}
use Rattle.buffer.specs.Pick.{pick}
use Rattle.buffer.specs.Stretch.{stretch}
use Rattle.buffer.specs.Walk.{item, unreadable, walk}
use Rattle.buffer.proofs.Stretches.{fits-true, fits-false, stretch-to, stretch-outside, stretch-inside}
use Rattle.buffer.proofs.Walks.{Advances, walk_end, walk_more, walk-unreadable}
use Rattle.message.specs.Read.{row_to, row_step, first_row, row_in}
use Rattle.message.specs.declared.Row.{Row}
use Rattle.protobuf.specs.Each.{Each}
use Rattle.protobuf.proofs.EachLaws.{either, each-walked}

-- a row that is found
abbrev pub row_found : ℕ → ℕ → ℕ → ℕ → Option Row
row_found n kind i e = Some (record { number = n; kind = kind; at = i; end = e })

-- a row takes three numbers and what stands behind them, in the table
abbrev RowLies : List ℕ → Row → Type 0
RowLies table r = (r.at + 3 ≤ r.end) × (r.end ≤ length table)

row_within : (table : List ℕ) (i : ℕ) (r : Row) (next : ℕ) → row_step table i ≡ item r next → (i < next) × RowLies table r
unfolding row_step row_to
row_within table i r next = go (stretch (length table) (i + 3) (get_or table (i + 2) 0)) refl
  where
    go : (t : Option ℕ) → stretch (length table) (i + 3) (get_or table (i + 2) 0) ≡ t → row_to (get_or table i 0) (get_or table (i + 1) 0) i t ≡ item r next
        → (i < next) × RowLies table r
    go (Some stop) g k =
        let b = stretch-inside (length table) (i + 3) (get_or table (i + 2) 0) stop g in
        let x : i ≡ r.at = cc in
        let y : stop ≡ r.end = cc in
        let z : stop ≡ next = cc in
        omega arith
    go None g k = let z : ◌≡◌ {A = ℕ} 0 1 = cc in absurd (omega arith)

row-advances : Advances row_step
row-advances table i r next e = (row_within table i r next e).0

module _ (table : List ℕ) (i len : ℕ) (e : len ≡ get_or table (i + 2) 0) where
  row-outside : length table < i + 3 + len → row_step table i ≡ unreadable
  unfolding row_step row_to
  row-outside h = rw (← e, stretch-outside (length table) (i + 3) len (fits-false (length table) (i + 3) len h))

  row_inside : i + 3 + len ≤ length table
      → row_step table i ≡ item (record { number = get_or table i 0; kind = get_or table (i + 1) 0; at = i; end = i + 3 + len }) (i + 3 + len)
  unfolding row_step row_to
  row_inside h = rw (← e, stretch-to (length table) (i + 3) len (fits-true (length table) (i + 3) len h))

-- what a table says of a field number, a row at a time
module _ (table : List ℕ) (n i : ℕ) where
  pub rows_end : length table ≤ i → first_row n (walk row_step table i).items ≡ None
  unfolding first_row
  rows_end h = rw (walk_end row_step table i h)

  module _ (len : ℕ) (e : len ≡ get_or table (i + 2) 0) where
    pub rows-outside : i < length table → length table < i + 3 + len → first_row n (walk row_step table i).items ≡ None
    unfolding first_row
    rows-outside h k = rw (walk-unreadable row_step table i h (row-outside table i len e k))

    module _ (h : i + 3 + len ≤ length table) where
      pub rows_more : first_row n (walk row_step table i).items
          ≡ pick (eqb (get_or table i 0) n) (row_found (get_or table i 0) (get_or table (i + 1) 0) i (i + 3 + len)) (first_row n (walk row_step table (i + 3 + len)).items)
      unfolding first_row
      rows_more = rw (walk_more row_step row-advances table i (i + 3 + len) _ (omega arith) (row_inside table i len e h))

      pub rows-this : get_or table i 0 ≡ n → first_row n (walk row_step table i).items ≡ row_found (get_or table i 0) (get_or table (i + 1) 0) i (i + 3 + len)
      rows-this k = rows_more ∙ rw (eq-eqb (get_or table i 0) n k)

      pub rows_other : (get_or table i 0 ≡ n → ⊥) → first_row n (walk row_step table i).items ≡ first_row n (walk row_step table (i + 3 + len)).items
      rows_other k = rows_more ∙ rw (ne_eqb (get_or table i 0) n k)

-- a row that is found lies in the table
abbrev KnownLies : List ℕ → Option Row → Type 0
KnownLies table (Some r) = RowLies table r
KnownLies table None = Unit {0}

first-lies : (table : List ℕ) (n : ℕ) (rs : List Row) → Each (RowLies table) rs → KnownLies table (first_row n rs)
unfolding first_row
first-lies table n [] h = tt
first-lies table n (r ∷ rs) h = either (KnownLies table) (eqb r.number n) _ _ h.0 (first-lies table n rs h.1)

pub known-within : (table : List ℕ) (n m kind i e : ℕ) → row_in table n ≡ row_found m kind i e → (i + 3 ≤ e) × (e ≤ length table)
unfolding row_in
known-within table n m kind i e h =
    subst (KnownLies table) h
    (first-lies table n _ (each-walked row_step row-advances (RowLies table) table 0 (λ i r next k g. (row_within table i r next g).1)))
