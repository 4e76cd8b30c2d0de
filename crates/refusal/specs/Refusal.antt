-- Refusals of the calls, document 01, "House refusals": checked in number order, as far as a call has that input.
use Rattle.std.specs.Prelude.{ℕ, List, Bool, eqb, ltb, ⊤, Result, Ok, Err}
use Rattle.buffer.specs.Pick.{pick}
use Rattle.store.specs.Store.{acceptable}
use Rattle.refusal.specs.declared.Refusal.{Refusal}
use Rattle.refusal.specs.declared.Refusal.TheVariants.{Output, ImageLength, Verdict, Store, DatagramLength, NotDue}

-- the number of a refusal: where nothing is due, the caller's
unfoldable pub number_of : Refusal → ℕ
number_of Output = 1
number_of ImageLength = 2
number_of Verdict = 3
number_of Store = 4
number_of DatagramLength = 5
number_of (NotDue number) = number

-- 0 where nothing is refused
unfoldable pub outcome_of : Result ⊤ Refusal → ℕ
outcome_of (Ok _) = 0
outcome_of (Err refusal) = number_of refusal

-- 1 output shorter than 1,280; 2 image buffer not of the setup length; 3 verdict not 0, 1 or 2; 4 the store; 5 datagram longer than 1,280.
-- 0 where none applies
unfoldable pub refusal_of : ℕ → ℕ → ℕ → ℕ → List ℕ → ℕ → ℕ
refusal_of image_len image out len store verdict =
    pick (ltb out 1280) 1
    (pick (eqb image image_len)
    (pick (ltb 2 verdict) 3
    (pick (acceptable store) (pick (ltb 1280 len) 5 0) 4))
    2)

-- of a datagram of the agent's own: 1, 4, and 8 or 9
unfoldable pub own_refusal : ℕ → List ℕ → Bool → ℕ → ℕ
own_refusal out store due number = pick (ltb out 1280) 1 (pick (acceptable store) (pick due 0 number) 4)
