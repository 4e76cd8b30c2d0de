-- What `specs/Statements.antt` states of messages.
use Prim.Native.Nat.{ℕ, ◌^◌, ◌<◌}
use mathlib.Core.Path.{◌≡◌, ap, ◌∙◌}
use mathlib.Core.List.{List, []}
use mathlib.Core.Bool.{true, false}
use lib.ListN.{length}
use Rattle.message.specs.Read.{Scan, scanned, read_into, Scanned}
use Rattle.message.specs.declared.Reading.{Reading}
use Rattle.tables.specs.Found.{rows_of, none_found, cells_of, found_in, reading_of}
use Rattle.tables.specs.Statements.{Formed, Small, Texts, RoundTrip, OneReader}
use Rattle.tables.specs.Table.{Table, Values, readable, padded, read_by, write_by}
use Rattle.tables.proofs.TableContents.{Fit}
use Rattle.tables.proofs.TableReadable.{written-readable, written-unpadded}
use Rattle.tables.proofs.TableTells.{tells}
use Rattle.tables.proofs.TableValues.{nested-back, values-back}
use Rattle.tables.proofs.TableWalk.{walks}

module _ {T : Table} (f : Formed T) (v : Values T) (m : Small T v) (n : length (write_by T v) < 2 ^ 64) where
  fit : Fit 0 T v
  fit = record { ordered = f.ordered; small = m; short = n }

  read_back : read_by T (write_by T v) ≡ v
  unfolding read_by
  read_back = nested-back T v fit (values-back T 0 [] v fit tt)

  read_whole : Texts T v → readable T (write_by T v) ≡ true
  unfolding readable
  read_whole x = written-readable 4 T v f.shallow fit x

  read-unpadded : padded T (write_by T v) ≡ false
  unfolding padded
  read-unpadded = written-unpadded 4 T v f.shallow fit

pub round_trip : RoundTrip
round_trip T f = record { whole = λ v m x n. read_whole f v m n x; unpadded = read-unpadded f; back = read_back f; unchanged = λ v s m n e. rw e (ap (write_by T) (read_back f v m n)) }

pub one_reader : OneReader
one_reader = record { walks = λ T s f. walks T s f.ordered f.shallow; tells = tells }

-- a value read by the numbers of a table
module _ (T : Table) (f : Formed T) (s : List ℕ) {table cells : List ℕ} (p : table ≡ rows_of T) (q : cells ≡ cells_of T (none_found T))
    {r : Reading} {left : List ℕ} (x : Scanned (read_into table cells s) r left) where
  by-table : read_into table cells s ≡ scanned (reading_of T s) (cells_of T (found_in T s))
  by-table = rw (p, q) (walks T s f.ordered f.shallow)

  pub told-by : r ≡ reading_of T s
  told-by = x.reading ∙ ap (λ (y : Scan). y.reading) by-table

  pub found-by : left ≡ cells_of T (found_in T s)
  found-by = x.cells ∙ ap (λ (y : Scan). y.cells) by-table
