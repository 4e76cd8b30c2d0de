-- What a request leaves, by its cases: one that asks for no delay, and one that does.
use Rattle.std.specs.Prelude.{Err, Ok}
use Rattle.post.specs.Judge.{Judgement}
use Prim.Native.Nat.{ℕ}
use mathlib.Core.Path.{◌≡◌, refl}
use mathlib.Core.List.{List, []}
use mathlib.Core.Bool.{Bool, true, false}
use lib.ListN.{drop}
use Rattle.buffer.proofs.Tests.{pick-both}
use Rattle.coap.specs.declared.Frame.{Frame}
use Rattle.request.specs.Request.{request_of}
use Rattle.request.specs.declared.Asks.{Asks}
use Rattle.request.specs.declared.Asks.TheVariants.{Error, Post as Posting, Index, Record, Records}
use Rattle.run.specs.Post.{judged_at}
use Rattle.run.specs.Run.{any_answered}
use Rattle.state.specs.declared.State.{State}
use Rattle.state.specs.declared.What.TheVariants.{Index as AnIndex, Record as ARecord, Records as SomeRecords, Responses}
use Rattle.tlv.specs.Record.{records}
use Rattle.waiting.specs.Waiting.{is_full}
use Rattle.calls.specs.Datagram.{Call, Effect, sends, silent, with_world, post_in, served, replied, ids_from, keeps, ran_later, posted_later, delayed_as, requested}

module _ (P : Effect → Type 0) (s : State) (image : List ℕ) (c : Call) (f : Frame) where
  abbrev payload : List ℕ
  payload = drop f.payload c.bytes

  abbrev answered : Bool
  answered = any_answered (records payload)

  abbrev judgement : Judgement
  judgement = judged_at s.device s.assigned.groups payload c.time c.verdict

  -- a POST that ran: without a place, and with its responses kept
  abbrev ran_alone : Effect
  ran_alone = sends 0 [] (with_world s (post_in s image c payload).world) (post_in s image c payload).world.flash c (post_in s image c payload).padded

  abbrev ran_kept : Effect
  ran_kept =
      keeps (with_world s (post_in s image c payload).world) (post_in s image c payload).world.flash c f Responses (post_in s image c payload).body (post_in s image c payload).padded

  -- what is to be shown of a request that asks for a delay, by what it asks for: of a POST where it fails, finds no place that it needs, runs and takes
  -- none, or keeps its responses
  pub record Later (a : Asks) : Type 0 where
    pub failed : (code : ℕ) → a ≡ Error code → P (silent 0 s image c)
    pub refused : a ≡ Posting → (code : ℕ) → judgement ≡ Err code → P (silent 0 s image c)
    pub shut : a ≡ Posting → judgement ≡ Ok tt → answered ≡ true → is_full s.waiting ≡ true → P (silent 0 s image c)
    pub runs : a ≡ Posting → judgement ≡ Ok tt → answered ≡ false
        → P ran_alone
    pub responds : a ≡ Posting → judgement ≡ Ok tt → answered ≡ true → is_full s.waiting ≡ false
        → P ran_kept
    pub index : a ≡ Index → P (keeps s image c f AnIndex [] false)
    pub one : (id : ℕ) → a ≡ Record id → P (keeps s image c f (ARecord id) [] false)
    pub several : a ≡ Records → P (keeps s image c f SomeRecords (ids_from c.bytes f.options) false)

  posted-by : (j : Judgement) → judgement ≡ j → Later Posting → P (posted_later s image c f payload j)
  unfolding posted_later ran_later
  posted-by (Err code) e l = l.refused refl code e
  posted-by (Ok tt) e l =
      pick-both P answered _ _
      (λ a. pick-both P (is_full s.waiting) _ _ (λ y. l.shut refl e a y) (λ n. l.responds refl e a n))
      (λ n. l.runs refl e n)

  late_by : (a : Asks) → Later a → P (delayed_as s image c f payload a)
  unfolding delayed_as
  late_by (Error code) l = l.failed code refl
  late_by Posting l = posted-by judgement refl l
  late_by Index l = l.index refl
  late_by (Record id) l = l.one id refl
  late_by Records l = l.several refl

  -- of any request
  pub requested-by : ((request_of c.bytes f).delayed ≡ false → P (replied f c (served s image c f)))
      → ((request_of c.bytes f).delayed ≡ true → Later (request_of c.bytes f).asks) → P (requested s image c f (request_of c.bytes f))
  unfolding requested
  requested-by now later =
      pick-both P (request_of c.bytes f).delayed _ _ (λ d. late_by (request_of c.bytes f).asks (later d)) (λ n. now n)

  -- where silence is as good as any
  pub silently : P (silent 0 s image c)
      → (judgement ≡ Ok tt → P ran_alone) → (judgement ≡ Ok tt → P ran_kept)
      → P (keeps s image c f AnIndex [] false) → ((id : ℕ) → P (keeps s image c f (ARecord id) [] false))
      → ((request_of c.bytes f).asks ≡ Records → P (keeps s image c f SomeRecords (ids_from c.bytes f.options) false))
      → Later (request_of c.bytes f).asks
  silently none ran kept index one several =
      record {
        failed = λ _ _. none;
        refused = λ _ _ _. none;
        shut = λ _ _ _ _. none;
        runs = λ _ j _. ran j;
        responds = λ _ j _ _. kept j;
        index = λ _. index;
        one = λ id _. one id;
        several = several;
      }
