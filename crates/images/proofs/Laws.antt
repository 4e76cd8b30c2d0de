-- Laws of the images' records: what each step of the code appends, and at most how many bytes they take.
use Rattle.std.specs.Prelude.{None, Option, Some}
use Prim.Native.Nat.{ℕ, ◌+◌, ◌-◌, ◌≤◌}
use mathlib.Core.Path.{◌≡◌}
use mathlib.Core.List.{List, [], ◌++◌}
use mathlib.Core.Bool.{Bool, true, false, not}
use native.Mathlib.Nat.{div-le_self}
use native.Mathlib.Omega.{arith}
use borrow.Author.Tests.{not-true, not-false}
use lib.ListN.{length, length-append}
use Rattle.buffer.specs.Pick.{pick}
use Rattle.buffer.specs.Put.{Put, Appended}
use Rattle.buffer.specs.Same.{same_bytes}
use Rattle.buffer.proofs.Puts.{appended-put, appended-join}
use Rattle.encode_image.specs.Write.{running_record, open_record, backup_record}
use Rattle.encode_image.proofs.Sizes.{running-most, open-most, backup-most}
use Rattle.state.specs.declared.Images.{Images}
use Rattle.state.specs.declared.Pending.{Pending}
use Rattle.transfer.specs.Blocks.{blocks}
use Rattle.images.specs.Images.{load_time_of, map_length, open_shown, backup_shown, images_shown}
use Rattle.schedule.specs.declared.Point.{Point}

-- the records that are shown where a flag is set
module _ {out : List ℕ} {at : ℕ} where
  pub shown-not : (flag : Bool) (bs : List ℕ) {left : List ℕ} {n : ℕ} → not flag ≡ true → Put out at [] left n → Appended out at (pick flag bs []) left n
  shown-not flag bs e p = rw (not-true flag e) (appended-put p)

  pub shown : (flag : Bool) (bs : List ℕ) {left : List ℕ} {n : ℕ} → not flag ≡ false → Put out at bs left n → Appended out at (pick flag bs []) left n
  shown flag bs e p = rw (not-false flag e) (appended-put p)

  module _ (i : Images) where
    pub open-not : {left : List ℕ} {n : ℕ} → not i.«open» ≡ true → Put out at [] left n → Appended out at (open_shown i) left n
    unfolding open_shown
    open-not e p = shown-not i.«open» _ e p

    pub open-put : {left : List ℕ} {n len : ℕ} {time : Option Point} → not i.«open» ≡ false → len ≡ map_length i.image
        → time ≡ load_time_of i.pending i.image.hash → Put out at (open_record i.image len time) left n → Appended out at (open_shown i) left n
    unfolding open_shown
    open-put e k t p = shown i.«open» _ e (rw (k, t) at p)

    pub backup-not : {left : List ℕ} {n : ℕ} → not i.backup.given ≡ true → Put out at [] left n → Appended out at (backup_shown i) left n
    unfolding backup_shown
    backup-not e p = shown-not i.backup.given _ e p

    pub backup-put : {left : List ℕ} {n : ℕ} {time : Option Point} → not i.backup.given ≡ false → time ≡ load_time_of i.pending i.backup.bytes
        → Put out at (backup_record i.backup.bytes time) left n → Appended out at (backup_shown i) left n
    unfolding backup_shown
    backup-put e t p = shown i.backup.given _ e (rw t at p)

-- the load time of a hash
module _ (p : Pending) (hash : List ℕ) where
  pub time-none : not p.is ≡ true → None ≡ load_time_of p hash
  unfolding load_time_of
  time-none e = rw (not-true p.is e)

  module _ (same : Bool) (h : not p.is ≡ false) (e : same ≡ same_bytes p.hash hash) where
    pub time-other : not same ≡ true → None ≡ load_time_of p hash
    unfolding load_time_of
    time-other k = rw (not-false p.is h, ← e, not-true same k)

    pub time-same : not same ≡ false → Some p.time ≡ load_time_of p hash
    unfolding load_time_of
    time-same k = rw (not-false p.is h, ← e, not-false same k)

-- there are no more blocks than the sizes allow
pub blocks-most : (size each n : ℕ) → n ≡ blocks size each → n ≤ size + each
unfolding blocks
blocks-most size each n e = let h = div-le_self (size + (each - 1)) each in omega (arith, e)

-- the images' records
pub images-join : (i : Images) {out : List ℕ} {at : ℕ} {x y left : List ℕ} {a b n : ℕ} → Put out at (running_record i.running) x a
    → Appended x a (open_shown i) y b → Appended y b (backup_shown i) left n → Appended out at (images_shown i) left n
unfolding images_shown
images-join i p q r = appended-join (running_record i.running) (open_shown i ++ backup_shown i) (appended-put p) (appended-join (open_shown i) (backup_shown i) q r)

-- at most how many bytes they take
pub shown-most : (flag : Bool) (bs : List ℕ) (k : ℕ) → length bs ≤ k → length (pick flag bs []) ≤ k
shown-most true bs k h = h
shown-most false bs k h = omega arith

-- the lengths of the arrays that are shown
pub record ImagesSized (i : Images) : Type 0 where
  pub running : length i.running ≡ 32
  pub hash : length i.image.hash ≡ 32
  pub name : length i.image.name.bytes ≡ 128
  pub version : length i.image.version.bytes ≡ 32
  pub bitmap : length i.image.bitmap ≡ 128
  pub backup : length i.backup.bytes ≡ 32

module _ (i : Images) (s : ImagesSized i) where
  open-shown-most : length (open_shown i) ≤ 379
  unfolding open_shown
  open-shown-most =
      shown-most i.«open» _ 379
      (open-most i.image (map_length i.image) (load_time_of i.pending i.image.hash) s.hash s.name s.version s.bitmap)

  backup-shown-most : length (backup_shown i) ≤ 60
  unfolding backup_shown
  backup-shown-most = shown-most i.backup.given _ 60 (backup-most i.backup.bytes s.backup (load_time_of i.pending i.backup.bytes))

  pub images-most : length (images_shown i) ≤ 510
  unfolding images_shown
  images-most =
      let o = open-shown-most in
      let b = backup-shown-most in
      let r = running-most i.running s.running in
      omega (arith, length-append (running_record i.running) (open_shown i ++ backup_shown i), length-append (open_shown i) (backup_shown i))
