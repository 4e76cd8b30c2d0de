-- The answers that wait, document 02, Q-1: how long, where their bytes stand, keeping one and taking one out.
use Rattle.std.specs.Prelude.{ℕ, suc, ◌+◌, ◌-◌, ◌*◌, ◌%◌, List, [], ◌∷◌, ◌++◌, Bool, Option, None, Some, eqb, ltb, leb, length, take, drop, set}
use Rattle.buffer.specs.Pick.{pick}
use Rattle.buffer.specs.Put.{placed}
use Rattle.schedule.specs.declared.Length.{Length}
use Rattle.schedule.specs.declared.Point.{Point}
use Rattle.state.specs.Waiting.{place_at}
use Rattle.state.specs.declared.Delayed.{Delayed}
use Rattle.state.specs.declared.Waiting.{Waiting}
use Rattle.state.specs.declared.What.{What}
use Rattle.waiting.specs.declared.Due.{Due}

-- the agent waits the host's number mod (a + 1) seconds
unfoldable pub wait_of : ℕ → ℕ → Length
wait_of most random = record { 0 = random % (most + 1) }

-- it holds up to four answers
unfoldable pub is_full : Waiting → Bool
is_full w = leb 4 w.count

-- where a slot's URL and what stands behind it begin in the lent buffer; slots 0 to 3 have 1,184 bytes each, and a slot that there is not begins at the end
unfoldable pub url_at : ℕ → ℕ
url_at slot = pick (leb 4 slot) 4736 (slot * 1184)

unfoldable pub held_at : ℕ → ℕ
held_at slot = url_at slot + 128

-- the URL of an answer, and the text of ids or the responses that it holds
unfoldable pub url_in : Delayed → List ℕ → List ℕ
url_in d answers = take d.url (drop (url_at d.slot) answers)

unfoldable pub held_in : Delayed → List ℕ → List ℕ
held_in d answers = take d.held (drop (held_at d.slot) answers)

-- one answer more, behind the others, if a place is free; its bytes go to the slot of this place
unfoldable pub kept : Waiting → Point → Length → What → List ℕ → List ℕ → Waiting
kept w from wait what url held =
    pick (is_full w) w
    (record {
      list =
          set w.list w.count
          (record { from = from; wait = wait; what = what; url = length url; held = length held; slot = (place_at w.list w.count).slot });
      count = w.count + 1;
    })

unfoldable pub kept_bytes : Waiting → List ℕ → List ℕ → List ℕ → List ℕ
kept_bytes w answers url held =
    pick (is_full w) answers
    (placed (placed answers (url_at (place_at w.list w.count).slot) url) (held_at (place_at w.list w.count).slot) held)

-- the second at which an answer's wait is over; it may lie beyond the last second of a point, and is then never reached
unfoldable pub over_at : Delayed → ℕ
over_at d = d.from.0 + d.wait.0

-- the place of the one whose wait is over earliest, the first kept on a tie: `best`, whose wait is over at `over`, or one from place i on
unfoldable pub earliest_from : ℕ → ℕ → ℕ → List Delayed → ℕ
earliest_from i best over [] = best
earliest_from i best over (d ∷ ds) = pick (ltb (over_at d) over) (earliest_from (suc i) i (over_at d) ds) (earliest_from (suc i) best over ds)

unfoldable pub earliest_in : List Delayed → ℕ
earliest_in [] = 0
earliest_in (d ∷ ds) = earliest_from 1 0 (over_at d) ds

unfoldable pub earliest : List Delayed → ℕ → ℕ
earliest l count = earliest_in (take count l)

-- the places with that of one answer behind the others, which move up; its slot is free
unfoldable pub without : List Delayed → ℕ → List Delayed
without l i = take i l ++ (drop (suc i) l ++ take 1 (drop i l))

-- the earliest is taken out if its wait is over by now
unfoldable pub due_at : Waiting → Point → ℕ → Option Due
due_at w time i =
    pick (eqb w.count 0) None
    (pick (ltb time.0 (over_at (place_at w.list i))) None
    (Some (record { answer = place_at w.list i; left = record { list = without w.list i; count = w.count - 1 } })))

unfoldable pub due_of : Waiting → Point → Option Due
due_of w time = due_at w time (earliest w.list w.count)

-- those that wait on: all of them where none is due
unfoldable pub left_by : Waiting → Option Due → Waiting
left_by w None = w
left_by w (Some d) = d.left
