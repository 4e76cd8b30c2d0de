-- Setup, document 01, "Sizes" and refusal 11.
use Rattle.std.specs.Prelude.{ℕ, List, [], ◌∷◌, Bool, false, ◌&&◌, length, replicate, eqb, leb, None}
use Rattle.std.proofs.lemmas.List.Edits.{sets}
use Rattle.buffer.specs.Pick.{pick}
use Rattle.csmp.specs.declared.Image.{Image}
use Rattle.decimal.specs.Ids.{no_ids}
use Rattle.schedule.specs.declared.Length.{Length}
use Rattle.state.specs.Groups.{no_pair}
use Rattle.state.specs.declared.Groups.{Groups}
use Rattle.state.specs.declared.Images.{Images}
use Rattle.state.specs.declared.Pending.{Pending}
use Rattle.state.specs.declared.Assigned.{Assigned}
use Rattle.state.specs.declared.Registration.{Registration}
use Rattle.state.specs.declared.Delayed.{Delayed}
use Rattle.state.specs.declared.State.{State}
use Rattle.state.specs.declared.Waiting.{Waiting}
use Rattle.state.specs.declared.What.TheVariants.{Index}
use Rattle.state.specs.declared.setup.Settings.{Settings}
use Rattle.state.specs.declared.setup.Setup.{Setup}
use Rattle.buffer.specs.Text.{text_of}
use Rattle.buffer.specs.declared.text.Text.{Text}

-- texts and hashes held by value, with zeros behind them
abbrev pub hw_id_of : List ℕ → Text 32
hw_id_of s = text_of 32 s

abbrev pub url_of : List ℕ → Text 128
url_of s = text_of 128 s

unfoldable pub hash_of : List ℕ → List ℕ
hash_of s = sets (replicate 32 0) 0 s

-- no image open
abbrev pub no_image : Image
no_image =
    record {
      hash = replicate 32 0;
      name = record { given = false; bytes = replicate 128 0; len = 0 };
      version = record { given = false; bytes = replicate 32 0; len = 0 };
      size = 0;
      block_size = 0;
      bitmap = replicate 128 0;
      held = 0;
    }

-- no load pending, no groups
abbrev pub no_pending : Pending
no_pending = record { is = false; hash = replicate 32 0; time = record { 0 = 0 } }

abbrev pub no_groups : Groups
no_groups = record { list = replicate 8 no_pair; count = 0 }

abbrev pub only_running : List ℕ → Images
only_running hash =
    record {
      running = hash;
      «open» = false;
      image = no_image;
      pending = no_pending;
      backup = record { given = false; bytes = replicate 32 0 };
    }

abbrev pub none_assigned : Assigned
none_assigned =
    record {
      groups = no_groups;
      in_session = false;
      session = text_of 64 [];
      reporting = false;
      interval = None;
      ids = no_ids;
    }

-- no answer waits; slots 0 to 3 are free
abbrev pub free_at : ℕ → Delayed
free_at slot = record { from = record { 0 = 0 }; wait = record { 0 = 0 }; what = Index; url = 0; held = 0; slot = slot }

abbrev pub none_waiting : Waiting
none_waiting = record { list = free_at 0 ∷ free_at 1 ∷ free_at 2 ∷ free_at 3 ∷ []; count = 0 }

-- setup starts registration: not accepted, no round awaited, interval tIntervalMin
abbrev pub starting_at : Length → Text 128 → ℕ → Registration
starting_at interval url id =
    record { accepted = false; awaited = false; round = 0; interval = interval; immediate = false; url = url; message_id = id }

unfoldable pub within : ℕ → ℕ → ℕ → Bool
within low n high = leb low n && leb n high

-- hardware ids 32 bytes, hash exactly 32, URL 128; vendorHwId alone may be empty
unfoldable pub valid_texts : List ℕ → List ℕ → List ℕ → List ℕ → Bool
valid_texts hw vendor running url = within 1 (length hw) 32 && (leb (length vendor) 32 && (eqb (length running) 32 && within 1 (length url) 128))

-- an image of 1 to 1,048,576 bytes; 1 ≤ tIntervalMin ≤ tIntervalMax ≤ 86,400
unfoldable pub valid_settings : Settings → Bool
valid_settings s =
    within 1 s.image_len 1048576
    && (leb 1 s.interval_min.0 && (leb s.interval_min.0 s.interval_max.0 && leb s.interval_max.0 86400))

-- nothing else is held at first; document 02, Q-8: padding is not refused
unfoldable pub first_state : List ℕ → List ℕ → List ℕ → List ℕ → Settings → State
first_state hw vendor running url s =
    record {
      device =
          record {
            hw_id = hw_id_of hw;
            vendor_hw_id = hw_id_of vendor;
            home = url_of url;
            image_len = s.image_len;
            interval_min = s.interval_min;
            interval_max = s.interval_max;
            signed_posts = s.signed_posts;
            signed_responses = s.signed_responses;
            refuse_padding = false;
          };
      images = only_running (hash_of running);
      assigned = none_assigned;
      registration = starting_at s.interval_min (url_of url) s.message_id;
      waiting = none_waiting;
    }

-- the fixed state beside a refusal
unfoldable pub blank_state : State
blank_state =
    first_state [] [] [] []
    (record {
      image_len = 0;
      interval_min = record { 0 = 0 };
      interval_max = record { 0 = 0 };
      message_id = 0;
      signed_posts = false;
      signed_responses = false;
    })

abbrev pub refused_setup : Setup
refused_setup = record { outcome = 11; state = blank_state }

unfoldable pub setup_of : List ℕ → List ℕ → List ℕ → List ℕ → Settings → Setup
setup_of hw vendor running url s =
    pick (valid_texts hw vendor running url)
    (pick (valid_settings s) (record { outcome = 0; state = first_state hw vendor running url s }) refused_setup)
    refused_setup
