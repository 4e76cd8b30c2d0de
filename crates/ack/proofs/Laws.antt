-- Laws of an acknowledgement: what each test of the code says of the definitions.
use Prim.Native.Nat.{ℕ}
use mathlib.Core.Path.{◌≡◌, refl, ◌∙◌}
use mathlib.Core.List.{List}
use mathlib.Core.Bool.{Bool, true, false, not, ◌&&◌, ◌||◌, and-false}
use lib.Dec.{eqb}
use Rattle.buffer.proofs.Tests.{split, both}
use Rattle.learn.specs.Learn.{learnt_from, padded_in}
use Rattle.post.specs.Judge.{badly_signed}
use Rattle.schedule.specs.declared.Point.{Point}
use Rattle.state.specs.declared.Registration.{Registration}
use Rattle.state.specs.declared.State.{State}
use Rattle.ack.specs.Take.{is_awaited, is_takable, accepted_by, taken_by, taken, acknowledged, taken_padded}
use Rattle.note.specs.declared.Learnt.{Learnt}

-- whether it is taken
module _ (r : Registration) (id : ℕ) where
  pub awaited-accepted : r.accepted ≡ true → is_awaited r id ≡ false
  unfolding is_awaited
  awaited-accepted h = rw h

  pub awaited-none : r.accepted ≡ false → r.awaited ≡ false → is_awaited r id ≡ false
  unfolding is_awaited
  awaited-none h k = rw (h, k)

  pub awaited-round : r.accepted ≡ false → r.awaited ≡ true → is_awaited r id ≡ eqb r.round id
  unfolding is_awaited
  awaited-round h k = rw (h, k)

module _ (l : Learnt) (verdict : ℕ) (required : Bool) where
  pub takable-unreadable : l.readable ≡ false → is_takable l verdict required ≡ false
  unfolding is_takable
  takable-unreadable h = rw h

  pub takable-unsigned : l.readable ≡ true → badly_signed l.signed verdict required ≡ true → is_takable l verdict required ≡ false
  unfolding is_takable
  takable-unsigned h k = rw (h, k)

  pub takable-expired : l.readable ≡ true → badly_signed l.signed verdict required ≡ false → l.expired ≡ true → is_takable l verdict required ≡ false
  unfolding is_takable
  takable-expired h k m = rw (h, k, m)

  pub takable-placed : l.readable ≡ true → badly_signed l.signed verdict required ≡ false → l.expired ≡ false
      → is_takable l verdict required ≡ (l.redirected || not l.needs_ninth)
  unfolding is_takable
  takable-placed h k m = rw (h, k, m)

module _ (s : State) (l : Learnt) where
  pub taken-redirected : l.redirected ≡ true → taken_by s l ≡ record { device = s.device; images = s.images; assigned = s.assigned; registration = l.registration; waiting = s.waiting }
  unfolding taken_by
  taken-redirected h = rw h

  pub taken-accepted : l.redirected ≡ false → taken_by s l ≡ accepted_by s l
  unfolding taken_by
  taken-accepted h = rw h

-- what is refused is not told, what is not refused is told as it is
untold : (on a t b : Bool) → on ≡ true → false ≡ (a && (t && (not on && b)))
untold on a t b h = rw (h, and-false t, and-false a)

unrefused : (on b : Bool) → (on && b) ≡ false → b ≡ (not on && b)
unrefused true b h = h
unrefused false b h = refl

module _ (s : State) (id : ℕ) (p : List ℕ) (time : Point) (verdict : ℕ) where
  -- what is left: a state, and what is said of padding
  abbrev Leaves : State → Bool → Type 0
  Leaves next padded = (next ≡ acknowledged s id p time verdict) × (padded ≡ taken_padded s id p time verdict)

  pub ack-unawaited : is_awaited s.registration id ≡ false → Leaves s false
  unfolding acknowledged taken taken_padded
  ack-unawaited h = (split (s.device.refuse_padding && padded_in p) (λ k. rw k) (λ k. rw (k, h)), rw h)

  module _ (h : is_awaited s.registration id ≡ true) {l : Learnt} {b : Bool}
      (e : (l ≡ learnt_from s.device s.registration s.assigned time p) × (b ≡ padded_in p)) where
    pub ack-padded : (s.device.refuse_padding && b) ≡ true → Leaves s false
    unfolding acknowledged taken_padded
    ack-padded k =
        let r = both s.device.refuse_padding b k in (
          rw (← e.1, k),
          untold s.device.refuse_padding (is_awaited s.registration id)
              (is_takable (learnt_from s.device s.registration s.assigned time p) verdict s.device.signed_responses) (padded_in p) r.0,
        )

    module _ (k : (s.device.refuse_padding && b) ≡ false) where
      pub ack-untaken : is_takable l verdict s.device.signed_responses ≡ false → Leaves s false
      unfolding acknowledged taken taken_padded
      ack-untaken t = (rw (← e.1, k, h, ← e.0, t), rw (h, ← e.0, t))

      pub ack-taken : {next : State} → next ≡ taken_by s l → is_takable l verdict s.device.signed_responses ≡ true → Leaves next b
      unfolding acknowledged taken taken_padded
      ack-taken n t = (n ∙ rw (← e.1, k, h, ← e.0, t), rw (h, ← e.0, t, ← e.1) (unrefused s.device.refuse_padding b k))
