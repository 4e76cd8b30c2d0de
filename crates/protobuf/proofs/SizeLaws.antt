-- At most how many bytes fields take, and values that are put together of them at the front of a buffer.
use Rattle.std.specs.Prelude.{None, Option, Some}
use Prim.Native.Nat.{ℕ, ◌+◌, ◌*◌, ◌^◌, ◌≤◌, ◌<◌}
use mathlib.Core.Path.{◌≡◌}
use mathlib.Core.List.{List, [], ◌∷◌}
use mathlib.Core.Bool.{Bool, true, false}
use native.Mathlib.Omega.{arith}
use lib.ListN.{length, take, length-append, length-take}
use Rattle.buffer.proofs.Puts.{all, Chain, Whole, chain-whole}
use Rattle.varint.proofs.Laws.{varint-length, varint-1, varint-5, two-length, delimited-length}
use Rattle.protobuf.specs.Given.{if_given}
use Rattle.protobuf.specs.Write.{number_field, bytes_field, if_any}

-- at most how many bytes fields take
pub number-most : (n v : ℕ) → length (number_field n v) ≤ 20
unfolding number_field
number-most n v = omega (arith, two-length (n * 8) v, varint-length (n * 8), varint-length v)

pub bytes_most : (n k : ℕ) (bs : List ℕ) → length bs ≤ k → length (bytes_field n bs) ≤ 20 + k
unfolding bytes_field
bytes_most n k bs h = omega (arith, delimited-length (n * 8 + 2) bs, varint-length (n * 8 + 2), varint-length (length bs))

pub number-if-most : (n : ℕ) (v : Option ℕ) → length (if_any (number_field n) v) ≤ 20
unfolding if_any
number-if-most n None = omega arith
number-if-most n (Some v) = number-most n v

pub bytes-if-most : (n k : ℕ) (given : Bool) (bs : List ℕ) → length bs ≤ k → length (if_any (bytes_field n) (if_given given bs)) ≤ 20 + k
unfolding if_any
bytes-if-most n k true bs h = bytes_most n k bs h
bytes-if-most n k false bs h = omega arith

-- small numbers take less
pub answer-most : (n v : ℕ) → n < 16 → v < 128 → length (number_field n v) ≤ 2
unfolding number_field
answer-most n v h g = omega (arith, two-length (n * 8) v, varint-1 (n * 8) (omega arith), varint-1 v g)

pub word-most : (n v : ℕ) → n < 16 → v < 2 ^ 32 → length (number_field n v) ≤ 6
unfolding number_field
word-most n v h g = omega (arith, two-length (n * 8) v, varint-1 (n * 8) (omega arith), varint-5 v g)

-- the first m of k are at most k
pub take-most : (m k : ℕ) (l : List ℕ) → length l ≡ k → length (take m l) ≤ k
take-most m k l h = omega (arith, length-take m l)

-- at most how many bytes pieces take
pub data Most : List (List ℕ) → ℕ → Type 0 where
  nil : Most [] 0
  upto : {p : List ℕ} {k : ℕ} {ps : List (List ℕ)} {m : ℕ} → length p ≤ k → Most ps m → Most (p ∷ ps) (k + m)

pub all_most : {ps : List (List ℕ)} {m : ℕ} → Most ps m → length (all ps) ≤ m
all_most nil = omega arith
all_most (upto {p = p} {ps = ps} h r) = let k = all_most r in omega (arith, length-append p (all ps))

-- a value that surely fits its buffer
pub whole : {out : List ℕ} {ps : List (List ℕ)} {left : List ℕ} {n m : ℕ} → Chain out 0 ps left n → Most ps m → m ≤ length out → Whole out (all ps) left n
whole c b h = chain-whole c (let k = all_most b in omega arith)
