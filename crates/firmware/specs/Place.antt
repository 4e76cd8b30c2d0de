-- Bytes of a value as the state holds them.
use Rattle.std.specs.Prelude.{ℕ, ◌-◌, List, Bool, true, false, length, take, drop, replicate, eqb, None, Option, Some, Result, Ok, Err}
use Rattle.std.proofs.lemmas.List.Edits.{sets}
use Rattle.csmp.specs.declared.Hash.{Hash}
use Rattle.csmp.specs.declared.Name.{Name}
use Rattle.csmp.specs.declared.Version.{Version}
use Rattle.buffer.specs.Pick.{pick}
use Rattle.firmware.specs.declared.Fault.{Fault}
use Rattle.firmware.specs.declared.Fault.TheVariants.{InvalidReq}
use Rattle.protobuf.specs.declared.Span.{Span}

-- a hash has exactly 32 bytes
unfoldable pub is_hash : Option Span → Bool
is_hash (Some x) = eqb (x.end - x.start) 32
is_hash None = false

abbrev pub bytes_at : List ℕ → ℕ → ℕ → List ℕ
bytes_at v start stop = take (stop - start) (drop start v)

unfoldable pub hash_at : List ℕ → Option Span → List ℕ
hash_at v (Some x) = sets (replicate 32 0) 0 (bytes_at v x.start x.end)
hash_at v None = replicate 32 0

-- a hash that must be there: a fault where there is none
unfoldable pub given_hash : List ℕ → Option Span → Result (List ℕ) Fault
given_hash v place = pick (is_hash place) (Ok (hash_at v place)) (Err InvalidReq)

-- responses echo a hash of 32 bytes, else none
unfoldable pub echoed : List ℕ → Option Span → Hash
echoed v place = record { given = is_hash place; bytes = hash_at v place }

unfoldable pub name_at : List ℕ → Option Span → Name
name_at v (Some x) = record { given = true; bytes = sets (replicate 128 0) 0 (bytes_at v x.start x.end); len = length (bytes_at v x.start x.end) }
name_at v None = record { given = false; bytes = replicate 128 0; len = 0 }

unfoldable pub version_at : List ℕ → Option Span → Version
version_at v (Some x) = record { given = true; bytes = sets (replicate 32 0) 0 (bytes_at v x.start x.end); len = length (bytes_at v x.start x.end) }
version_at v None = record { given = false; bytes = replicate 32 0; len = 0 }
