-- At most how many bytes a message takes, by the rows of its table.
use Rattle.std.specs.Prelude.{None, Option, Some}
use Prim.Native.Nat.{ℕ, ◌+◌, ◌*◌, ◌^◌, ◌≤◌, ◌<◌}
use mathlib.Core.Path.{◌≡◌}
use mathlib.Core.List.{List, []}
use mathlib.Core.Bool.{Bool, true, false}
use native.Mathlib.Omega.{arith}
use lib.ListN.{length, take, length-append}
use Rattle.varint.specs.Varint.{delimited}
use Rattle.varint.proofs.Laws.{varint-length, varint-1, varint-2, two-length, delimited-length}
use Rattle.protobuf.specs.Given.{if_given}
use Rattle.protobuf.specs.Write.{number_field, bytes_field, if_any, each}
use Rattle.protobuf.proofs.SizeLaws.{take-most}
use Rattle.tables.specs.Table.{Kind, uint32, bool, bytes, string, strings, message, Table, end, row, Value, Values, flag_number, written, write_by}

-- bounds of the fields, row by row
pub data Rows : (T : Table) → Values T → ℕ → Type 0 where
  stop : {v : Values end} → Rows end v 0
  field : {n : ℕ} {k : Kind} {T : Table} {v : Value k} {vs : Values T} {a m : ℕ} → length (written k n v) ≤ a → Rows T vs m
      → Rows (row n k T) (v, vs) (a + m)

pub rows-most : {T : Table} {v : Values T} {m : ℕ} → Rows T v m → length (write_by T v) ≤ m
unfolding write_by
rows-most stop = omega arith
rows-most (field {n = n} {k = k} {T = T} {v = v} {vs = vs} h r) =
    let g = rows-most r in omega (arith, length-append (written k n v) (write_by T vs))

pub delimited-most : (kind : ℕ) {T : Table} {v : Values T} {m : ℕ} → Rows T v m → kind < 128 → m < 2 ^ 14 → length (delimited kind (write_by T v)) ≤ 3 + m
delimited-most kind {T} {v} {m} r k b =
    let h = rows-most r in
    omega (arith, delimited-length kind (write_by T v), varint-1 kind k, varint-2 (length (write_by T v)) (omega arith))

-- a field of each kind, its tag one byte
module _ (n : ℕ) (tag : n < 16) where
  numbered : (v : ℕ) → length (number_field n v) ≤ 11
  unfolding number_field
  numbered v = omega (arith, two-length (n * 8) v, varint-1 (n * 8) (omega arith), varint-length v)

  pub number : (v : Option ℕ) → length (written uint32 n v) ≤ 11
  unfolding written if_any
  number None = omega arith
  number (Some v) = numbered v

  pub flag : (b : Bool) → length (written bool n (Some b)) ≤ 11
  unfolding written if_any
  flag b = numbered (flag_number b)

  module _ (k : ℕ) (b : k < 2 ^ 14) where
    pub held : (bs : List ℕ) → length bs ≤ k → length (written bytes n (Some bs)) ≤ 3 + k
    unfolding written if_any bytes_field
    held bs h = omega (arith, delimited-length (n * 8 + 2) bs, varint-1 (n * 8 + 2) (omega arith), varint-2 (length bs) (omega arith))

    held-if : (given : Bool) (bs : List ℕ) → length bs ≤ k → length (written bytes n (if_given given bs)) ≤ 3 + k
    unfolding written if_any
    held-if true bs h = held bs h
    held-if false bs h = omega arith

    -- a string takes what its bytes take
    pub text-if : (m : ℕ) (given : Bool) (bs : List ℕ) → length bs ≡ k → length (written string n (if_given given (take m bs))) ≤ 3 + k
    unfolding written
    text-if m given bs h = held-if given (take m bs) (take-most m k bs h)

-- what is not there takes nothing
module _ (n : ℕ) where
  pub no_number : length (written uint32 n None) ≤ 0
  unfolding written if_any
  no_number = omega arith

  pub no_flag : length (written bool n None) ≤ 0
  unfolding written if_any
  no_flag = omega arith

  pub no_bytes : length (written bytes n None) ≤ 0
  unfolding written if_any
  no_bytes = omega arith

  pub no-string : length (written string n None) ≤ 0
  unfolding written if_any
  no-string = omega arith

  pub no-strings : length (written strings n []) ≤ 0
  unfolding written each
  no-strings = omega arith

  pub no-message : (T : Table) → length (written (message T) n None) ≤ 0
  unfolding written if_any
  no-message T = omega arith
