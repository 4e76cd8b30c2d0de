-- Records 68 to 70, document 01, "Transfer": the answers, first that applies.
use Rattle.std.specs.Prelude.{ℕ, List, Bool, true, ◌&&◌, eqb, None, Option, Some}
use Rattle.buffer.specs.Pick.{pick}
use Rattle.buffer.specs.Same.{same_bytes}
use Rattle.decode_image.specs.Read.{load_of, hash_of}
use Rattle.decode_image.specs.declared.ImageHash.{ImageHash}
use Rattle.decode_image.specs.declared.Load.{Load}
use Rattle.schedule.specs.declared.Point.{Point}
use Rattle.state.specs.Setup.{no_pending}
use Rattle.state.specs.declared.Images.{Images}
use Rattle.state.specs.declared.Pending.{Pending}
use Rattle.csmp.specs.declared.Hash.{Hash}
use Rattle.transfer.specs.Bitmap.{complete}
use Rattle.firmware.specs.Place.{is_hash, hash_at}
use Rattle.firmware.specs.Answer.{unchanged, is_open}
use Rattle.firmware.specs.declared.Answered.{Answered}

-- the images with another pending load, and with another backup
abbrev pub with_pending : Images → Pending → Images
with_pending i p = record { running = i.running; «open» = i.«open»; image = i.image; pending = p; backup = i.backup }

abbrev pub with_backup : Images → Hash → Images
with_backup i b = record { running = i.running; «open» = i.«open»; image = i.image; pending = i.pending; backup = b }

-- the backup's hash, the pending one
unfoldable pub is_backup : Images → List ℕ → Bool
is_backup i hash = i.backup.given && same_bytes i.backup.bytes hash

unfoldable pub is_pending : Images → List ℕ → Bool
is_pending i hash = i.pending.is && same_bytes i.pending.hash hash

-- 3 not open; 2 the open image is incomplete
unfoldable pub open_fault : Images → List ℕ → ℕ
open_fault i hash = pick (is_open i hash) (pick (complete i.image) 0 2) 3

-- 3 hash is neither the open one nor the backup; 2 not the backup and the open image incomplete
unfoldable pub source_fault : Images → List ℕ → ℕ
source_fault i hash = pick (is_backup i hash) 0 (open_fault i hash)

-- 8 another hash is pending
unfoldable pub pending_fault : Images → List ℕ → ℕ
pending_fault i hash = pick i.pending.is (pick (is_pending i hash) 0 8) 0

-- 68: else pending, 0 (a new time replaces the old)
unfoldable pub loads : Images → List ℕ → Point → Answered
loads i hash time =
    pick (eqb (source_fault i hash) 0)
    (pick (eqb (pending_fault i hash) 0)
    (unchanged (with_pending i (record { is = true; hash = hash; time = time })) 0)
    (unchanged i (pending_fault i hash)))
    (unchanged i (source_fault i hash))

-- 68: 6 load time absent or 0
unfoldable pub loads_at : Images → List ℕ → Option Point → Answered
loads_at i hash (Some t) = pick (eqb t.0 0) (unchanged i 6) (loads i hash t)
loads_at i hash None = unchanged i 6

-- 68: 6 hash bad; by what was read of the request, and by its value
unfoldable pub load_taken : Images → List ℕ → Load → Answered
load_taken i v l = pick (is_hash l.hash) (loads_at i (hash_at v l.hash) l.time) (unchanged i 6)

unfoldable pub load_answered : Images → List ℕ → Answered
load_answered i v = load_taken i v (load_of v)

-- 69: the pending hash: cleared, 0; 9 the running one; else 3
unfoldable pub cancels : Images → List ℕ → Answered
cancels i hash =
    pick (is_pending i hash) (unchanged (with_pending i no_pending) 0) (pick (same_bytes i.running hash) (unchanged i 9) (unchanged i 3))

unfoldable pub cancel_taken : Images → List ℕ → ImageHash → Answered
cancel_taken i v h = pick (is_hash h.hash) (cancels i (hash_at v h.hash)) (unchanged i 6)

unfoldable pub cancel_answered : Images → List ℕ → Answered
cancel_answered i v = cancel_taken i v (hash_of v)

-- 70: 3 not open; 2; 8 a load is pending; backup becomes this hash, 0
unfoldable pub backs : Images → List ℕ → Answered
backs i hash =
    pick (eqb (open_fault i hash) 0)
    (pick i.pending.is (unchanged i 8) (unchanged (with_backup i (record { given = true; bytes = hash })) 0))
    (unchanged i (open_fault i hash))

unfoldable pub backup_taken : Images → List ℕ → ImageHash → Answered
backup_taken i v h = pick (is_hash h.hash) (backs i (hash_at v h.hash)) (unchanged i 6)

unfoldable pub backup_answered : Images → List ℕ → Answered
backup_answered i v = backup_taken i v (hash_of v)

-- boot makes the pending hash, if any, running, and clears pending
unfoldable pub booted : Images → Images
booted i =
    pick i.pending.is
    (record { running = i.pending.hash; «open» = i.«open»; image = i.image; pending = no_pending; backup = i.backup })
    i
