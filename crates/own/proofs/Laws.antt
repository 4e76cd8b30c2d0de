-- Laws of the agent's own records: what each step of the code appends, and that all of them fit.
use Prim.Native.Nat.{ℕ, suc, ◌+◌, ◌*◌, ◌≤◌, ◌<◌}
use mathlib.Core.Path.{◌≡◌, refl, sym, ap, ◌∙◌}
use mathlib.Core.List.{List, [], ◌∷◌, ◌++◌, append-nil, append_assoc}
use mathlib.Core.Bool.{true, false, not}
use native.Mathlib.Omega.{arith}
use lib.ListN.{length, take, get_or, length-append, length-take}
use lib.Seq.{take_all, take-suc, get_or-take}
use Rattle.buffer.specs.Put.{Put, Appended}
use Rattle.buffer.proofs.Puts.{appended-put, appended-none, appended-join, appended-all, appended-front}
use Rattle.encode.specs.Write.{report_record, time_record, group_record}
use Rattle.encode.proofs.Sizes.{report-most, time-most, group-most}
use Rattle.images.specs.Images.{images_shown}
use Rattle.images.proofs.Laws.{ImagesSized, shown, shown-not, shown-most, images-most}
use Rattle.schedule.specs.declared.Point.{Point}
use Rattle.state.specs.Groups.{no_pair, held_pairs}
use Rattle.state.specs.declared.Assigned.{Assigned}
use Rattle.state.specs.declared.Pair.{Pair}
use Rattle.state.specs.declared.State.{State}
use Rattle.own.specs.Own.{report_shown, groups_shown, own_records}

-- ReportSubscribe, where one is held
module _ {out : List ℕ} {at : ℕ} (a : Assigned) where
  pub report-not : {left : List ℕ} {n : ℕ} → not a.reporting ≡ true → Put out at [] left n → Appended out at (report_shown a) left n
  unfolding report_shown
  report-not e p = shown-not a.reporting _ e p

  pub report-put : {left : List ℕ} {n : ℕ} → not a.reporting ≡ false
      → Put out at (report_record a.interval a.ids) left n → Appended out at (report_shown a) left n
  unfolding report_shown
  report-put e p = shown a.reporting _ e p

-- the groups up to a place of the list
unfoldable pub groups_to : List Pair → ℕ → ℕ → List ℕ
groups_to l n i = groups_shown (take i (take n l))

groups-append : (a b : List Pair) → groups_shown (a ++ b) ≡ groups_shown a ++ groups_shown b
unfolding groups_shown
groups-append [] b = refl
groups-append (p ∷ a) b =
    ap (λ (l : List ℕ). group_record p.kind p.id ++ l) (groups-append a b)
    ∙ sym (append_assoc (group_record p.kind p.id) (groups_shown a) (groups_shown b))

module _ {out : List ℕ} {at : ℕ} (l : List Pair) (n i : ℕ) {left : List ℕ} {end : ℕ} where
  pub groups-past : n ≤ i → Appended out at (groups_to l n i) left end → Appended out at (groups_shown (take n l)) left end
  unfolding groups_to
  groups-past h a = rw (take_all i (take n l) (omega (arith, length-take n l))) at a

  pub groups-end : length l ≤ i → Appended out at (groups_to l n i) left end → Appended out at (groups_shown (take n l)) left end
  unfolding groups_to
  groups-end h a = rw (take_all i (take n l) (omega (arith, length-take n l))) at a

pub groups-start : (l : List Pair) (n : ℕ) (out : List ℕ) (at : ℕ) → at ≤ length out + 1 → Appended out at (groups_to l n 0) out at
unfolding groups_to groups_shown
groups-start l n out at h = appended-none out at h

groups-more : (l : List Pair) (n i : ℕ) → i < n → i < length l
    → groups_to l n (i + 1) ≡ groups_to l n i ++ group_record (get_or l i no_pair).kind (get_or l i no_pair).id
unfolding groups_to groups_shown
groups-more l n i h k =
    let e : i + 1 ≡ suc i = omega arith in
    let p = get_or l i no_pair in
    rw (e, take-suc (take n l) i no_pair (omega (arith, length-take n l)), get_or-take n l i no_pair h)
    (groups-append (take i (take n l)) (p ∷ []) ∙ rw (append-nil (group_record p.kind p.id)))

pub groups-next : {out : List ℕ} {at : ℕ} (l : List Pair) (n i : ℕ) {mid : List ℕ} {m : ℕ} {left : List ℕ} {end : ℕ} → i < n → i < length l
    → Appended out at (groups_to l n i) mid m → Put mid m (group_record (get_or l i no_pair).kind (get_or l i no_pair).id) left end
    → Appended out at (groups_to l n (i + 1)) left end
groups-next l n i h k a p =
    rw (groups-more l n i h k)
    (appended-join (groups_to l n i) (group_record (get_or l i no_pair).kind (get_or l i no_pair).id) a (appended-put p))

-- at most how many bytes they take
groups-length : (l : List Pair) → length (groups_shown l) ≤ 25 * length l
unfolding groups_shown
groups-length [] = omega arith
groups-length (p ∷ l) =
    let h : length (groups_shown l) ≤ 25 * length l = groups-length l in
    omega (arith, length-append (group_record p.kind p.id) (groups_shown l), group-most p.kind p.id)

groups-most : (l : List Pair) (n : ℕ) → length l ≡ 8 → length (groups_shown (take n l)) ≤ 200
groups-most l n h = let g = groups-length (take n l) in omega (arith, length-take n l)

report-shown-most : (a : Assigned) → length a.ids.list ≡ 32 → length (report_shown a) ≤ 398
unfolding report_shown
report-shown-most a h = shown-most a.reporting _ 398 (report-most a.interval a.ids h)

-- the lengths of the arrays that are shown
pub record AssignedSized (a : Assigned) : Type 0 where
  pub ids : length a.ids.list ≡ 32
  pub groups : length a.groups.list ≡ 8

own-most : (s : State) (time : Point) → AssignedSized s.assigned → ImagesSized s.images → length (own_records s time) ≤ 1152
unfolding own_records
own-most s time a i =
    let r = report_shown s.assigned in
    let g = groups_shown (held_pairs s.assigned.groups) in
    let m = images_shown s.images in
    let h = report-shown-most s.assigned a.ids in
    let k = groups-most s.assigned.groups.list s.assigned.groups.count a.groups in
    let n = images-most s.images i in
    let t = time-most time in
    omega (arith, length-append r (time_record time ++ (g ++ m)), length-append (time_record time) (g ++ m), length-append g m)

-- all of them, at the front
pub own-all : (s : State) (time : Point) {out w x y left : List ℕ} {a b c n : ℕ} → length out ≡ 1152 → AssignedSized s.assigned → ImagesSized s.images
    → Appended out 0 (report_shown s.assigned) w a → Put w a (time_record time) x b
    → Appended x b (groups_shown (held_pairs s.assigned.groups)) y c → Appended y c (images_shown s.images) left n
    → (n ≤ length left) × (take n left ≡ own_records s time)
unfolding own_records
own-all s time {out} {left = left} {n = n} h z i p q r t =
    let g = groups_shown (held_pairs s.assigned.groups) in
    let m = images_shown s.images in
    let k = own-most s time z i in
    let e : Appended out 0 (own_records s time) left n =
    appended-join (report_shown s.assigned) (time_record time ++ (g ++ m)) p
    (appended-join (time_record time) (g ++ m) (appended-put q) (appended-join g m r t)) in
    let l = appended-all e (omega arith) in
    (omega (arith, l.1, e.kept), (appended-front e (omega (arith, l.1))).1)
