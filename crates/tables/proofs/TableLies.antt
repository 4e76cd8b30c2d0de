-- The places that the walk over a value finds lie in it.
use Rattle.std.specs.Prelude.{None, Option, Some}
use Prim.Native.Nat.{ℕ, ◌+◌, ◌-◌, ◌≤◌}
use mathlib.Core.Path.{◌≡◌, refl, subst}
use mathlib.Core.List.{List, [], ◌∷◌}
use mathlib.Core.Bool.{Bool, true, false, ◌&&◌}
use native.Mathlib.Omega.{arith}
use borrow.Author.Tests.{eqb-true, ne_eqb}
use lib.Dec.{eqb}
use lib.ListN.{length, drop, length-take}
use Rattle.buffer.specs.Pick.{pick}
use Rattle.protobuf.specs.Each.{Each}
use Rattle.protobuf.specs.Field.{fields}
use Rattle.protobuf.specs.declared.Field.{Field}
use Rattle.protobuf.proofs.EachLaws.{either, each-so, each_over}
use Rattle.protobuf.proofs.FieldLaws.{Follows, fields-follow}
use Rattle.message.specs.Read.{wire_of, place_of}
use Rattle.tables.specs.Table.{Kind, uint32, bool, bytes, string, strings, message, messages, Table, end, row}
use Rattle.tables.specs.Found.{wire_of_kind, Cell, no_cell, Held, Found, none_held, none_found, Placed, placed_at, placed, is_of, cell_with, each_in, held_with, found_with, found_in, bytes_in}
use Rattle.protobuf.specs.Given.{spanning}
use Rattle.protobuf.specs.declared.Span.{Span}

-- bytes that are there lie in the value
abbrev pub Lies : List ℕ → Option Span → Type 0
Lies s (Some x) = (x.start ≤ x.end) × (x.end ≤ length s)
Lies s None = Unit {0}

-- what is found of a row of bytes, and of the rows of what it holds
abbrev mutual
  pub KindLies : List ℕ → (k : Kind) → Cell × Held k → Type 0
  KindLies s uint32 c = Unit {0}
  KindLies s bool c = Unit {0}
  KindLies s bytes c = Lies s (bytes_in c.0)
  KindLies s string c = Lies s (bytes_in c.0)
  KindLies s strings c = Lies s (bytes_in c.0)
  KindLies s (message T) c = Lies s (bytes_in c.0) × AllLie s T c.1
  KindLies s (messages T) c = Lies s (bytes_in c.0) × AllLie s T c.1

  pub AllLie : List ℕ → (T : Table) → Found T → Type 0
  AllLie s end g = Unit {0}
  AllLie s (row n k T) g = KindLies s k g.0 × AllLie s T g.1

module _ (s : List ℕ) where
  -- a field whose place lies in the value, and whose bytes do from there on
  abbrev Within : Placed → Type 0
  Within p = (p.start ≤ p.stop) × (p.stop ≤ length s) × (p.start + length p.content.bytes ≤ length s)

  placed-within : (base : ℕ) (bs : List ℕ) → base + length bs ≤ length s → Each Within (placed base bs)
  unfolding placed
  placed-within base bs h =
      each_over Within (placed_at base bs) (fields bs).items (each-so (Follows bs 0) _ (λ f k. go f k.1 k.2) (fields bs).items (fields-follow bs 0))
    where
      go : (f : Field) → f.start ≤ f.end → f.end ≤ length bs → Within (placed_at base bs f)
      go f a k = let m = length-take (f.end - f.start) (drop f.start bs) in (omega arith, omega arith, omega arith)

  -- before the first field
  mutual
    unfolding none_held none_found place_of

    none-lies : (k : Kind) → KindLies s k (no_cell, none_held k)
    none-lies uint32 = tt
    none-lies bool = tt
    none-lies bytes = tt
    none-lies string = tt
    none-lies strings = tt
    none-lies (message T) = (tt, none_lie T)
    none-lies (messages T) = (tt, none_lie T)

    none_lie : (T : Table) → AllLie s T (none_found T)
    none_lie end = tt
    none_lie (row n k T) = (none-lies k, none_lie T)

  -- one field more
  abbrev Goes : Table → Type 0
  Goes T = (g : Found T) (p : Placed) → Within p → AllLie s T g → AllLie s T (found_with T g p)

  -- so it is with fields one after the other
  each-lies : (T : Table) → Goes T → (ps : List Placed) → Each Within ps → (g : Found T) → AllLie s T g → AllLie s T (each_in (found_with T) g ps)
  unfolding each_in
  each-lies T go [] i g h = h
  each-lies T go (p ∷ ps) i g h = each-lies T go ps i.1 (found_with T g p) (go g p i.0 h)

  -- the place of a field of bytes
  cell_lies : (c : Cell) (p : Placed) → Within p → p.content.wire ≡ 2 → Lies s (bytes_in (cell_with c p))
  unfolding cell_with place_of
  cell_lies c p i w =
      rw (ne_eqb p.content.wire 0 (omega arith)) (either (Lies s) (eqb (cell_with c p).count 0) None (spanning p.start p.stop) tt (i.0, i.1))

  -- a field that counts for a row, and one that does not
  row_lies : (n : ℕ) (k : Kind) (c : Cell × Held k) (p : Placed) → (p.content.wire ≡ wire_of_kind k → KindLies s k (cell_with c.0 p, held_with k c.1 p))
      → KindLies s k c → KindLies s k (pick (is_of n (wire_of_kind k) p) (cell_with c.0 p, held_with k c.1 p) c)
  row_lies n k c p step h = go (eqb p.content.number n) (eqb p.content.wire (wire_of_kind k)) refl
    where
      go : (t u : Bool) → eqb p.content.wire (wire_of_kind k) ≡ u → KindLies s k (pick (t && u) (cell_with c.0 p, held_with k c.1 p) c)
      go true true e = step (eqb-true _ _ e)
      go true false e = h
      go false u e = h

  mutual
    unfolding wire_of found_with

    kind-lies : (k : Kind) (c : Cell × Held k) (p : Placed) → Within p → p.content.wire ≡ wire_of_kind k → KindLies s k c
        → KindLies s k (cell_with c.0 p, held_with k c.1 p)
    kind-lies uint32 c p i w h = tt
    kind-lies bool c p i w h = tt
    kind-lies bytes c p i w h = cell_lies c.0 p i w
    kind-lies string c p i w h = cell_lies c.0 p i w
    kind-lies strings c p i w h = cell_lies c.0 p i w
    kind-lies (message T) c p i w h =
        (cell_lies c.0 p i w, each-lies T (λ g q j x. table-lies T g q j x) _ (placed-within p.start p.content.bytes i.2) c.1 h.1)
    kind-lies (messages T) c p i w h =
        (cell_lies c.0 p i w, each-lies T (λ g q j x. table-lies T g q j x) _ (placed-within p.start p.content.bytes i.2) c.1 h.1)

    table-lies : (T : Table) → Goes T
    table-lies end g p i h = tt
    table-lies (row n k T) g p i h = (row_lies n k g.0 p (λ w. kind-lies k g.0 p i w h.0) h.0, table-lies T g.1 p i h.1)

pub lies : (T : Table) (s : List ℕ) → AllLie s T (found_in T s)
unfolding found_in
lies T s = each-lies s T (table-lies s T) (placed 0 s) (placed-within s 0 s (omega arith)) (none_found T) (none_lie s T)

-- bytes found at a place lie there
pub place-within : (s : List ℕ) (c : Cell) → Lies s (bytes_in c) → (a e : ℕ) → bytes_in c ≡ spanning a e → (a ≤ e) × (e ≤ length s)
place-within s c h a e k = subst (Lies s) k h
