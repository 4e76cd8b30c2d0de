-- Sizes of the answers that wait, document 02, Q-1.
use Rattle.std.specs.Prelude.{ℕ, ◌≤◌, ◌<◌, ◌≡◌, length}
use Rattle.state.specs.Waiting.{place_at}
use Rattle.state.specs.declared.Delayed.{Delayed}
use Rattle.state.specs.declared.Waiting.{Waiting}

-- a URL has at most 128 bytes (0 where there is none), the text of ids or the responses at most 1,056
pub record DelayedSized (d : Delayed) : Type 0 where
  pub url : d.url ≤ 128
  pub held : d.held ≤ 1056
  pub slot : d.slot < 4

-- at most four answers in an array of four, and the four places have the four slots, those that are free too
pub record WaitingSized (w : Waiting) : Type 0 where
  pub list : length w.list ≡ 4
  pub count : w.count ≤ 4
  pub each : (i : ℕ) → i < 4 → DelayedSized (place_at w.list i)
  pub slots : (i j : ℕ) → i < j → j < 4 → (place_at w.list i).slot ≡ (place_at w.list j).slot → ⊥
