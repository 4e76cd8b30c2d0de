-- The states that setup and calls make, and what document 01, "Sizes", and document 02, Q-1, Q-2, Q-3 and Q-5, promise of them; padding refused or not, Q-8.
use Rattle.std.specs.Prelude.{ℕ, ◌≤◌, ◌≡◌, List, Bool, true, false, ◌⊎◌, length, take}
use Rattle.csmp.specs.declared.Image.{Image}
use Rattle.decimal.specs.Decimal.{IsId}
use Rattle.decimal.specs.Ids.{held as listed}
use Rattle.outgoing.specs.declared.Report.{Report}
use Rattle.protobuf.specs.Each.{Each}
use Rattle.schedule.specs.declared.Point.{Point}
use Rattle.state.specs.Groups.{TypesDiffer}
use Rattle.state.specs.Setup.{setup_of}
use Rattle.state.specs.declared.Assigned.{Assigned}
use Rattle.state.specs.declared.Device.{Device}
use Rattle.state.specs.declared.Images.{Images}
use Rattle.state.specs.declared.Registration.{Registration}
use Rattle.state.specs.declared.State.{State}
use Rattle.state.specs.declared.setup.Settings.{Settings}
use Rattle.transfer.specs.Bitmap.{held, CountsOnes}
use Rattle.transfer.specs.Blocks.{blocks}
use Rattle.utf8.specs.Utf8.{IsText}
use Rattle.waiting.specs.Sized.{WaitingSized}
use Rattle.calls.specs.Boot.{boot_of}
use Rattle.calls.specs.Datagram.{Call, datagram_of}
use Rattle.calls.specs.Due.{answer_due}
use Rattle.calls.specs.Own.{round_of, report_of}
use Rattle.calls.specs.Padding.{refusing_padding}

-- only setup and calls make states
pub data Made : State → Type 0 where
  set : (hw vendor running url : List ℕ) (s : Settings) → (setup_of hw vendor running url s).outcome ≡ 0
      → Made (setup_of hw vendor running url s).state
  called : {s : State} → Made s → (image : List ℕ) (c : Call) → Made (datagram_of s image c).state
  rounded : {s : State} → Made s → (out : ℕ) (store : List ℕ) (time : Point) → Made (round_of s out store time).state
  reported : {s : State} → Made s → (out : ℕ) (store : List ℕ) (time : Point) (which : Report) → Made (report_of s out store time which).state
  booted : {s : State} → Made s → Made (boot_of s)
  padding : {s : State} → Made s → (on : Bool) → Made (refusing_padding s on)
  due : {s : State} → Made s → (answers : List ℕ) (out : ℕ) (store : List ℕ) (time : Point) → Made (answer_due s answers out store time).state

abbrev pub Between : ℕ → ℕ → ℕ → Type 0
Between low n high = (low ≤ n) × (n ≤ high)

-- hardware ids 32, URL 128; image buffer 1 to 1,048,576; 1 ≤ tIntervalMin ≤ tIntervalMax ≤ 86,400
pub record DeviceSized (d : Device) : Type 0 where
  pub hw : Between 1 d.hw_id.len 32
  pub vendor : d.vendor_hw_id.len ≤ 32
  pub home : Between 1 d.home.len 128
  pub image : Between 1 d.image_len 1048576
  pub low : Between 1 d.interval_min.0 d.interval_max.0
  pub high : d.interval_max.0 ≤ 86400

-- an open image: hash exactly 32, file name 128, version 32, block size 1 to 1,024, at most 1,024 blocks, spare bits 0
pub record OpenSized (d : Device) (i : Image) : Type 0 where
  pub hash : length i.hash ≡ 32
  pub name : i.name.len ≤ 128
  pub version : i.version.len ≤ 32
  pub size : Between 1 i.size d.image_len
  pub each : Between 1 i.block_size 1024
  pub count : blocks i.size i.block_size ≤ 1024
  pub bitmap : length i.bitmap ≡ 128
  pub spare : (n : ℕ) → blocks i.size i.block_size ≤ n → held i.bitmap n ≡ false

-- hashes 32; the number of blocks held is that of the ones; file name and version are text
pub record ImagesSized (d : Device) (i : Images) : Type 0 where
  pub running : length i.running ≡ 32
  pub opened : i.«open» ≡ true → OpenSized d i.image
  pub number : CountsOnes i.image
  pub name : IsText (take i.image.name.len i.image.name.bytes)
  pub version : IsText (take i.image.version.len i.image.version.bytes)
  pub pending : length i.pending.hash ≡ 32
  pub backup : length i.backup.bytes ≡ 32

-- at most 8 groups in an array of 8, no two of one type; session id 64, and it is text; the report's list 32, each an id
pub record AssignedSized (a : Assigned) : Type 0 where
  pub list : length a.groups.list ≡ 8
  pub groups : a.groups.count ≤ 8
  pub types : TypesDiffer a.groups
  pub session : a.session.len ≤ 64
  pub text : IsText (take a.session.len a.session.bytes)
  pub ids : a.ids.count ≤ 32
  pub each : Each IsId (listed a.ids)

-- URL 128, the setup's or text; the interval between the smallest and the largest
pub record RegistrationSized (d : Device) (r : Registration) : Type 0 where
  pub url : Between 1 r.url.len 128
  pub text : (r.url ≡ d.home) ⊎ IsText (take r.url.len r.url.bytes)
  pub interval : Between d.interval_min.0 r.interval.0 d.interval_max.0

pub record Sized (s : State) : Type 0 where
  pub device : DeviceSized s.device
  pub images : ImagesSized s.device s.images
  pub assigned : AssignedSized s.assigned
  pub registration : RegistrationSized s.device s.registration
  pub waiting : WaitingSized s.waiting

abbrev pub MadeSized : Type 0
MadeSized = (s : State) → Made s → Sized s
