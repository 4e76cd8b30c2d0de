-- Laws of the readers: what the code finds by the numbers of a table is what the table says, by name.
use Rattle.std.specs.Prelude.{Bool, Option}
use Prim.Native.Nat.{ℕ}
use mathlib.Core.Path.{◌≡◌}
use mathlib.Core.List.{List}
use lib.ListN.{get_or}
use Rattle.message.specs.Read.{number_of, flag_of, place_of, limited, read_into, Scanned}
use Rattle.message.specs.declared.Reading.{Reading}
use Rattle.tables.specs.Found.{rows_of, none_found, cells_of, held_cells}
use Rattle.tables.proofs.Theorems.{told-by, found-by}
use Rattle.csmp.specs.Tables.{redirect, session, group, signature_validity}
use Rattle.csmp.specs.Values.{moment_of, at_most}
use Rattle.csmp.proofs.Formed.{redirect-formed, session-formed, group-formed, signature-validity-formed}
use Rattle.decode.specs.Read.{redirect_of, session_of, group_of, validity_of}
use Rattle.protobuf.specs.declared.Span.{Span}
use Rattle.schedule.specs.declared.Point.{Point}

-- 6
module _ (v : List ℕ) {table cells left : List ℕ} {r : Reading} (p : table ≡ rows_of redirect) (q : cells ≡ cells_of redirect (none_found redirect))
    (x : Scanned (read_into table cells v) r left) where
  pub redirect-by : {url : Option Span} {immediate : Option Bool}
      → url ≡ place_of (get_or left 0 0) (get_or left 1 0) (get_or left 2 0)
      → immediate ≡ flag_of (get_or left 3 0) (get_or left 4 0)
      → record { reading = limited r (at_most 128 url); url = url; immediate = immediate } ≡ redirect_of v
  unfolding redirect_of cells_of held_cells
  redirect-by e0 e1 = rw (told-by redirect redirect-formed v p q x, e0, e1, found-by redirect redirect-formed v p q x)

-- 7
module _ (v : List ℕ) {table cells left : List ℕ} {r : Reading} (p : table ≡ rows_of session) (q : cells ≡ cells_of session (none_found session))
    (x : Scanned (read_into table cells v) r left) where
  pub session-by : {id : Option Span}
      → id ≡ place_of (get_or left 0 0) (get_or left 1 0) (get_or left 2 0)
      → record { reading = limited r (at_most 64 id); id = id } ≡ session_of v
  unfolding session_of cells_of held_cells
  session-by e0 = rw (told-by session session-formed v p q x, e0, found-by session session-formed v p q x)

-- 55, 57
module _ (v : List ℕ) {table cells left : List ℕ} {r : Reading} (p : table ≡ rows_of group) (q : cells ≡ cells_of group (none_found group))
    (x : Scanned (read_into table cells v) r left) where
  pub group-by : {kind : Option ℕ} {id : Option ℕ}
      → kind ≡ number_of (get_or left 0 0) (get_or left 1 0)
      → id ≡ number_of (get_or left 3 0) (get_or left 4 0)
      → record { reading = r; kind = kind; id = id } ≡ group_of v
  unfolding group_of cells_of held_cells
  group-by e0 e1 = rw (told-by group group-formed v p q x, e0, e1, found-by group group-formed v p q x)

-- 76
module _ (v : List ℕ) {table cells left : List ℕ} {r : Reading} (p : table ≡ rows_of signature_validity) (q : cells ≡ cells_of signature_validity (none_found signature_validity))
    (x : Scanned (read_into table cells v) r left) where
  pub validity-by : {not-before : Option Point} {not-after : Option Point}
      → not-before ≡ moment_of (number_of (get_or left 0 0) (get_or left 1 0))
      → not-after ≡ moment_of (number_of (get_or left 3 0) (get_or left 4 0))
      → record { reading = r; not_before = not-before; not_after = not-after } ≡ validity_of v
  unfolding validity_of cells_of held_cells
  validity-by e0 e1 = rw (told-by signature_validity signature-validity-formed v p q x, e0, e1, found-by signature_validity signature-validity-formed v p q x)
