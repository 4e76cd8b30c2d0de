-- A response takes at most 44 bytes, those of 24 records 1,056.
use Rattle.std.specs.Prelude.{None, Option, Some}
use Prim.Native.Nat.{ℕ, ◌*◌, ◌%◌, ◌^◌, ◌≤◌, ◌<◌}
use mathlib.Core.Path.{◌≡◌, refl}
use mathlib.Core.List.{List, [], ◌∷◌}
use mathlib.Core.Bool.{Bool, true, false, ◌&&◌, ◌||◌}
use native.Mathlib.Omega.{arith}
use borrow.Author.Tests.{ltb-true}
use lib.Dec.{eqb, ltb}
use lib.ListN.{length, replicate, length-append}
use lib.Seq.{length-sets}
use Rattle.buffer.specs.Pick.{pick}
use Rattle.buffer.specs.Same.{same_bytes}
use Rattle.decode_image.specs.Read.{load_of, hash_of, transfer_of}
use Rattle.csmp.specs.Values.{moment_of, moment_number}
use Rattle.csmp.specs.declared.Image.{Image}
use Rattle.decode_image.specs.declared.Transfer.{Transfer}
use Rattle.encode_image.proofs.Sizes.{time_field, response-record-most}
use Rattle.protobuf.proofs.SizeLaws.{word-most}
use Rattle.firmware.specs.Answer.{is_open}
use Rattle.loading.specs.Load.{is_backup, is_pending, open_fault, source_fault, pending_fault, loads, loads_at, load_taken, load_answered, cancels, cancel_taken, cancel_answered, backs, backup_taken, backup_answered}
use Rattle.opening.specs.Open.{is_whole, is_ours, fault_of, replaced, opens, open_if, transfer_taken, transfer_answered}
use Rattle.firmware.specs.Place.{is_hash, bytes_at, hash_at, echoed}
use Rattle.firmware.specs.declared.Answered.{Answered}
use Rattle.message.specs.Read.{number_of}
use Rattle.csmp.specs.Tables.{load_request}
use Rattle.tables.specs.Found.{found_in}
use Rattle.protobuf.specs.Write.{if_any}
use Rattle.schedule.specs.declared.Point.{Point}
use Rattle.state.specs.declared.Device.{Device}
use Rattle.state.specs.declared.Images.{Images}
use Rattle.transfer.specs.Bitmap.{complete}
use Rattle.transfer.specs.Blocks.{blocks}
use Rattle.answer.specs.Answer.{load_time}
use Rattle.step.specs.Step.{World, act, response}
use Rattle.tlv.specs.Record.{Tlv}
use Rattle.run.specs.Run.{responses}
use Rattle.protobuf.specs.declared.Span.{Span}

-- a time that was read
time-never : length (time_field None) ≤ 6
unfolding if_any moment_number
time-never = omega arith

time-most : (answer : ℕ) (v : List ℕ) → length (time_field (load_time answer (load_of v))) ≤ 6
unfolding load_time load_of number_of moment_of moment_number if_any
time-most answer v = let c = (found_in load_request v).1.0.0 in go (eqb answer 0) (eqb c.count 0) c.first
  where
    go : (t u : Bool) (n : ℕ) → length (time_field (pick t (moment_of (pick u None (Some (n % 2 ^ 32)))) None)) ≤ 6
    go true true n = omega arith
    go true false n = word-most 3 (n % 2 ^ 32) (omega arith) (omega arith)
    go false u n = omega arith

hash-length : (v : List ℕ) (place : Option Span) → length (echoed v place).bytes ≡ 32
unfolding echoed hash_at
hash-length v (Some x) = length-sets {A = ℕ} (replicate 32 0) 0 (bytes_at v x.start x.end)
hash-length v None = refl

-- answers are small
below : (t : Bool) {a b : ℕ} → a < 128 → b < 128 → pick t a b < 128
below true g h = g
below false g h = h

below_of : (t : Bool) (a b : Answered) → a.answer < 128 → b.answer < 128 → (pick t a b).answer < 128
below_of true a b g h = g
below_of false a b g h = h

lit : (n : ℕ) → ltb n 128 ≡ true → n < 128
lit n h = ltb-true n 128 h

open-below : (i : Images) (hash : List ℕ) → open_fault i hash < 128
unfolding open_fault
open-below i hash = below (is_open i hash) (below (complete i.image) (lit 0 refl) (lit 2 refl)) (lit 3 refl)

source-below : (i : Images) (hash : List ℕ) → source_fault i hash < 128
unfolding source_fault
source-below i hash = below (is_backup i hash) (lit 0 refl) (open-below i hash)

pending-below : (i : Images) (hash : List ℕ) → pending_fault i hash < 128
unfolding pending_fault
pending-below i hash = below i.pending.is (below (is_pending i hash) (lit 0 refl) (lit 8 refl)) (lit 0 refl)

loads-below : (i : Images) (hash : List ℕ) (time : Point) → (loads i hash time).answer < 128
unfolding loads
loads-below i hash time =
    below_of (eqb (source_fault i hash) 0) _ _ (below_of (eqb (pending_fault i hash) 0) _ _ (lit 0 refl) (pending-below i hash)) (source-below i hash)

loads-at-below : (i : Images) (hash : List ℕ) (time : Option Point) → (loads_at i hash time).answer < 128
unfolding loads_at
loads-at-below i hash (Some t) = below_of (eqb t.0 0) _ _ (lit 6 refl) (loads-below i hash t)
loads-at-below i hash None = lit 6 refl

load_below : (i : Images) (v : List ℕ) → (load_answered i v).answer < 128
unfolding load_answered load_taken
load_below i v = below_of (is_hash (load_of v).hash) _ _ (loads-at-below i (hash_at v (load_of v).hash) (load_of v).time) (lit 6 refl)

cancels-below : (i : Images) (hash : List ℕ) → (cancels i hash).answer < 128
unfolding cancels
cancels-below i hash = below_of (is_pending i hash) _ _ (lit 0 refl) (below_of (same_bytes i.running hash) _ _ (lit 9 refl) (lit 3 refl))

cancel-below : (i : Images) (v : List ℕ) → (cancel_answered i v).answer < 128
unfolding cancel_answered cancel_taken
cancel-below i v = below_of (is_hash (hash_of v).hash) _ _ (cancels-below i (hash_at v (hash_of v).hash)) (lit 6 refl)

backs-below : (i : Images) (hash : List ℕ) → (backs i hash).answer < 128
unfolding backs
backs-below i hash = below_of (eqb (open_fault i hash) 0) _ _ (below_of i.pending.is _ _ (lit 8 refl) (lit 0 refl)) (open-below i hash)

backup-below : (i : Images) (v : List ℕ) → (backup_answered i v).answer < 128
unfolding backup_answered backup_taken
backup-below i v = below_of (is_hash (hash_of v).hash) _ _ (backs-below i (hash_at v (hash_of v).hash)) (lit 6 refl)

fault-below : (d : Device) (i : Images) (v : List ℕ) (t : Transfer) (size each : ℕ) → fault_of d i v t size each < 128
unfolding fault_of
fault-below d i v t size each =
    below (eqb each 0 || ltb 1024 each) (lit 7 refl)
    (below (is_ours d v t)
    (below i.pending.is (lit 8 refl) (below (ltb d.image_len size || ltb 1024 (blocks size each)) (lit 4 refl) (lit 0 refl)))
    (lit 1 refl))

opens-below : (i : Images) (image : Image) → (opens i image).answer < 128
unfolding opens replaced
opens-below i image =
    below_of (is_open i image.hash) _ _
    (below (eqb i.image.size image.size && eqb i.image.block_size image.block_size) (lit 0 refl) (lit 6 refl))
    (lit 0 refl)

open-if-below : (fault : ℕ) (i : Images) (image : Image) → fault < 128 → (open_if fault i image).answer < 128
unfolding open_if
open-if-below fault i image h = below_of (eqb fault 0) _ _ (opens-below i image) h

transfer-below : (d : Device) (i : Images) (v : List ℕ) → (transfer_answered d i v).answer < 128
unfolding transfer_answered transfer_taken
transfer-below d i v = below_of (is_whole (transfer_of v)) _ _ (open-if-below _ i _ (fault-below d i v (transfer_of v) _ _)) (lit 6 refl)

-- so are responses
short : (t : Bool) (a b : List ℕ) → length a ≤ 44 → length b ≤ 44 → length (pick t a b) ≤ 44
short true a b g h = g
short false a b g h = h

pub response-within : (d : Device) (w : World) (k : ℕ) (v : List ℕ) → length (response d w k v) ≤ 44
unfolding response
response-within d w k v =
    short (eqb k 65) _ _ (response-record-most 71 _ _ _ (lit 71 refl) (hash-length v (transfer_of v).hash) (transfer-below d w.images v) time-never)
    (short (eqb k 68) _ _ (response-record-most 72 _ _ _ (lit 72 refl) (hash-length v (load_of v).hash) (load_below w.images v) (time-most _ v))
    (short (eqb k 69) _ _ (response-record-most 73 _ _ _ (lit 73 refl) (hash-length v (hash_of v).hash) (cancel-below w.images v) time-never)
    (short (eqb k 70) _ _ (response-record-most 74 _ _ _ (lit 74 refl) (hash-length v (hash_of v).hash) (backup-below w.images v) time-never)
    (omega arith))))

-- the room that a record's response is given
pub response-most : (d : Device) (w : World) (k : ℕ) (v : List ℕ) → length (response d w k v) ≤ 48
response-most d w k v = omega (arith, response-within d w k v)

-- those of several records
responses-within : (d : Device) (w : World) (ts : List Tlv) → length (responses d w ts) ≤ 44 * length ts
unfolding responses
responses-within d w [] = omega arith
responses-within d w (t ∷ ts) =
    let r = response d w t.kind t.value in
    let next = act d w t.kind t.value in
    omega (arith, length-append r (responses d next ts), response-within d w t.kind t.value, responses-within d next ts)

pub responses-most : (d : Device) (w : World) (ts : List Tlv) → length ts ≤ 24 → length (responses d w ts) ≤ 1056
responses-most d w ts h = omega (arith, responses-within d w ts)
