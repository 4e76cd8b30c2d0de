-- Laws of judged payloads: one that runs has few records, whose values can be read; and what a post leaves.
use Rattle.std.specs.Prelude.{Ok, Err}
use Prim.Native.Nat.{ℕ, ◌+◌, ◌≤◌}
use mathlib.Core.Path.{◌≡◌, refl, sym, ap, ap₂, ◌∙◌}
use mathlib.Core.List.{List, [], ◌∷◌}
use mathlib.Core.Bool.{Bool, true, false, not, ◌&&◌}
use native.Mathlib.Omega.{arith}
use borrow.Author.Tests.{leb-true}
use lib.Dec.{eqb, leb}
use lib.ListN.{length}
use Rattle.buffer.specs.Pick.{pick}
use Rattle.buffer.proofs.Tests.{both}
use Rattle.post.specs.Judge.{Judgement, noted, seen_of, nothing_seen, sealed, looked_at, padded_in, LookedBy, judged, judged_as}
use Rattle.post.specs.Value.{is_readable}
use Rattle.post.specs.declared.Looked.{Looked}
use Rattle.post.specs.declared.Seen.{Seen}
use Rattle.protobuf.specs.Each.{Each}
use Rattle.schedule.specs.declared.Point.{Point}
use Rattle.state.specs.declared.Device.{Device}
use Rattle.state.specs.declared.Groups.{Groups}
use Rattle.state.specs.declared.Images.{Images}
use Rattle.step.specs.Step.{World}
use Rattle.tlv.specs.Record.{Tlv, records, readable}
use Rattle.run.specs.Post.{posted_as, judged_at, posted, posted_from, BegunBy}
use Rattle.run.specs.Front.{FrontBy}
use Rattle.run.specs.Run.{records_at, world_with, ran, responses}
use Rattle.run.specs.declared.front.Begun.{Begun}
use Rattle.run.proofs.Walk.{at-end}

-- what is seen of records
module _ (g : Groups) (time : Point) where
  seen-count : (s : Seen) (ts : List Tlv) → (seen_of g time s ts).records ≡ s.records + length ts
  unfolding seen_of noted
  seen-count s [] = omega arith
  seen-count s (t ∷ ts) = omega (arith, seen-count (noted g time s t.kind t.value) ts)

  seen-each : (s : Seen) (ts : List Tlv) → (seen_of g time s ts).readable ≡ true
      → (s.readable ≡ true) × Each (λ (t : Tlv). is_readable t.kind t.value ≡ true) ts
  unfolding seen_of noted
  seen-each s [] h = (h, tt)
  seen-each s (t ∷ ts) h =
      let r = seen-each (noted g time s t.kind t.value) ts h in
      let k = is_readable t.kind t.value in
      let b = both s.readable k r.0 in
      (b.0, (b.1, r.1))

  looked-seen : (p : List ℕ) → (looked_at g time p).readable ≡ true
      → ((looked_at g time p).records ≡ length (records p)) × Each (λ (t : Tlv). is_readable t.kind t.value ≡ true) (records p)
  unfolding looked_at sealed
  looked-seen p h = go (leb (length p) 1280) h
    where
      go : (t : Bool) → (pick t (sealed (readable p) (seen_of g time nothing_seen (records p))) (sealed false nothing_seen)).readable ≡ true
          → ((pick t (sealed (readable p) (seen_of g time nothing_seen (records p))) (sealed false nothing_seen)).records ≡ length (records p))
          × Each (λ (t : Tlv). is_readable t.kind t.value ≡ true) (records p)
      go true h =
          let s = seen_of g time nothing_seen (records p) in
          (omega (arith, seen-count nothing_seen (records p)), (seen-each nothing_seen (records p) (both (readable p) s.readable h).1).1)
      go false h = let z : ◌≡◌ {A = ℕ} 0 1 = cc in absurd (omega arith)

-- what runs can be read and has at most 24 records
judged-run : (s : Seen) (verdict : ℕ) (required : Bool) → judged s verdict required ≡ Ok tt → (s.readable ≡ true) × (s.records ≤ 24)
unfolding judged
judged-run s verdict required h =
    let a = leb s.records 24 in
    let b = not (eqb s.records 0) && a in
    let e = go (s.readable && b) _ h in
    let x = both s.readable b e in
    (x.0, leb-true s.records 24 (both (not (eqb s.records 0)) a x.1).1)
  where
    go : (t : Bool) (x : Judgement) → pick t x (Err 128) ≡ Ok tt → t ≡ true
    go true x q = refl
    go false x q = let z : ◌≡◌ {A = ℕ} 0 1 = cc in absurd (omega arith)

judged-as-run : (refuse padded : Bool) (s : Seen) (verdict : ℕ) (required : Bool) → judged_as refuse padded s verdict required ≡ Ok tt → judged s verdict required ≡ Ok tt
unfolding judged_as
judged-as-run refuse padded s verdict required = go (refuse && padded)
  where
    go : (t : Bool) → pick t (Err 128) (judged s verdict required) ≡ Ok tt → judged s verdict required ≡ Ok tt
    go true q = let z : ◌≡◌ {A = ℕ} 0 1 = cc in absurd (omega arith)
    go false q = q

module _ (g : Groups) (time : Point) (p : List ℕ) (verdict : ℕ) (required refuse : Bool) (h : judged_as refuse (padded_in p) (looked_at g time p) verdict required ≡ Ok tt) where
  runs : ((looked_at g time p).readable ≡ true) × ((looked_at g time p).records ≤ 24)
  runs = judged-run (looked_at g time p) verdict required (judged-as-run refuse (padded_in p) (looked_at g time p) verdict required h)

  pub run-few : length (records p) ≤ 24
  run-few =
      let r = runs in
      omega (arith, r.1, (looked-seen g time p r.0).0)

  pub run-readable : Each (λ (t : Tlv). is_readable t.kind t.value ≡ true) (records p)
  run-readable = (looked-seen g time p runs.0).1

-- the records that are still to run lead to what all of them lead to
from-run : (d : Device) (w : World) (p : List ℕ) (next : World) (at : ℕ) {code : ℕ} {padded told : Bool} → code ≡ 65 → told ≡ padded → ran d w (records p) ≡ ran d next (records_at p at)
    → responses d w (records p) ≡ responses d next (records_at p at) → posted_as d w p padded (Ok tt) ≡ posted_from d next p at code told
unfolding posted_as
from-run d w p next at e f a b = rw (e, f, a, b)

-- what a post begins with, by the judgement
module _ (i : Images) (g : Groups) (signed refuse : Bool) (flash p : List ℕ) (time : Point) (verdict : ℕ) {looked : Looked} (l : LookedBy g time p looked) where
  pub begun-error : {code : ℕ} {j : Judgement} → j ≡ judged_as refuse looked.padded looked.seen verdict signed → j ≡ Err code
      → BegunBy i g signed refuse flash p time verdict (record { code = code; at = length p; images = i; padded = false }) flash
  unfolding posted posted_as judged_at ran responses
  begun-error h k =
      let f : judged_as refuse (padded_in p) (looked_at g time p) verdict signed ≡ Err _ =
      ap₂ (λ (b : Bool) (s : Seen). judged_as refuse b s verdict signed) (sym l.padded) (sym l.seen) ∙ sym h ∙ k in
      let z : length p ≤ length p = omega arith in
      let a = at-end p (length p) z in
      record { post = λ d reg q o. rw (q, o, f, a); few = rw a (omega arith); created = λ m. absurd (omega arith); judged = λ d q o m. absurd (omega arith) }

  pub begun-run : {j : Judgement} {r : Begun} {left : List ℕ} → j ≡ judged_as refuse looked.padded looked.seen verdict signed → j ≡ Ok tt
      → (r.code ≡ 65) × (r.padded ≡ looked.padded) × FrontBy i flash p r.images r.at left → BegunBy i g signed refuse flash p time verdict r left
  unfolding posted posted_as judged_at
  begun-run {r = r} {left = left} h k b =
      let f : judged_as refuse (padded_in p) (looked_at g time p) verdict signed ≡ Ok tt =
      ap₂ (λ (b : Bool) (s : Seen). judged_as refuse b s verdict signed) (sym l.padded) (sym l.seen) ∙ sym h ∙ k in
      let n = run-few g time p verdict signed refuse f in
      let m = b.2.fewer in
      record {
        post =
            λ d reg q o.
            ap₂ (λ (s t : Bool). posted_as d (world_with i reg flash) p (padded_in p) (judged_as t (padded_in p) (looked_at g time p) verdict s)) q o
            ∙ ap (posted_as d (world_with i reg flash) p (padded_in p)) f
            ∙ from-run d (world_with i reg flash) p (world_with r.images reg left) r.at b.0 (b.1 ∙ l.padded) (b.2.world d reg) (b.2.body d reg);
        few = omega arith;
        created = λ m. b.0;
        judged = λ d q o m. rw (q, o) f;
      }
