-- Step j, document 01, "Requests, in this order" and "Transfer": what one record does, and the response that it gets.
use Rattle.std.specs.Prelude.{ℕ, ◌≡◌, List, [], ◌∷◌, Bool, ◌||◌, eqb, None}
use Rattle.buffer.specs.Listed.{listed}
use Rattle.buffer.specs.Pick.{pick}
use Rattle.buffer.specs.Put.{Put}
use Rattle.decode_image.specs.Read.{transfer_of, load_of, hash_of}
use Rattle.encode_image.specs.Write.{response_record}
use Rattle.loading.specs.Load.{load_answered, cancel_answered, backup_answered}
use Rattle.opening.specs.Open.{transfer_answered}
use Rattle.firmware.specs.Place.{echoed}
use Rattle.registration.specs.Redirect.{redirected}
use Rattle.state.specs.declared.Device.{Device}
use Rattle.state.specs.declared.Images.{Images}
use Rattle.state.specs.declared.Registration.{Registration}
use Rattle.transfer.specs.Block.{Flash, take_block}
use Rattle.answer.specs.Answer.{load_time}
use Rattle.answer.specs.declared.Ran.{Ran}

-- what records may change
pub record World : Type 0 where
  pub images : Images
  pub registration : Registration
  pub flash : List ℕ

abbrev pub with_images : World → Images → World
with_images w i = record { images = i; registration = w.registration; flash = w.flash }

abbrev pub with_registration : World → Registration → World
with_registration w r = record { images = w.images; registration = r; flash = w.flash }

-- the open image and the image buffer
abbrev pub with_flash : World → Flash → World
with_flash w f =
    record {
      images =
          record {
            running = w.images.running;
            «open» = w.images.«open»;
            image = f.image;
            pending = w.images.pending;
            backup = w.images.backup;
          };
      registration = w.registration;
      flash = f.bytes;
    }

-- 67: a block goes to the open image
unfoldable pub block_taken : World → List ℕ → World
block_taken w v = pick w.images.«open» (with_flash w (take_block w.images.image w.flash v)) w

-- what one record does; others than these are skipped
unfoldable pub act : Device → World → ℕ → List ℕ → World
act d w k v =
    pick (eqb k 6) (with_registration w (redirected d w.registration v))
    (pick (eqb k 65) (with_images w (transfer_answered d w.images v).images)
    (pick (eqb k 67) (block_taken w v)
    (pick (eqb k 68) (with_images w (load_answered w.images v).images)
    (pick (eqb k 69) (with_images w (cancel_answered w.images v).images)
    (pick (eqb k 70) (with_images w (backup_answered w.images v).images) w)))))

-- the response that it gets: 71 to 74 echo the request's hash
unfoldable pub response : Device → World → ℕ → List ℕ → List ℕ
response d w k v =
    pick (eqb k 65) (response_record 71 (echoed v (transfer_of v).hash) (transfer_answered d w.images v).answer None)
    (pick (eqb k 68) (response_record 72 (echoed v (load_of v).hash) (load_answered w.images v).answer (load_time (load_answered w.images v).answer (load_of v)))
    (pick (eqb k 69) (response_record 73 (echoed v (hash_of v).hash) (cancel_answered w.images v).answer None)
    (pick (eqb k 70) (response_record 74 (echoed v (hash_of v).hash) (backup_answered w.images v).answer None) [])))

-- the records that are answered
unfoldable pub is_request : ℕ → Bool
is_request k = listed k (65 ∷ 68 ∷ 69 ∷ 70 ∷ [])

-- those that do more than to put a block: these and a redirect
unfoldable pub needs_more : ℕ → Bool
needs_more k = eqb k 6 || is_request k

-- the world that a value of the code's and an image buffer are
abbrev pub world_of : Ran → List ℕ → World
world_of r flash = record { images = r.images; registration = r.registration; flash = flash }

-- what no answer leaves: all as it was, and nothing appended
pub record Passed (r : Ran) (out : List ℕ) (next : Ran) (left : List ℕ) : Type 0 where
  pub images : next.images ≡ r.images
  pub registration : next.registration ≡ r.registration
  pub appended : Put out r.end [] left next.end

-- what a record leaves: what it does, and its response appended
pub record Stepped (d : Device) (w : World) (k : ℕ) (v : List ℕ) (out : List ℕ) (at : ℕ) (next : Ran) (flash left : List ℕ) : Type 0 where
  pub world : world_of next flash ≡ act d w k v
  pub appended : Put out at (response d w k v) left next.end
