-- Laws of judging a payload, one step each.
use Rattle.std.specs.Prelude.{None, Some}
use Prim.Native.Nat.{ℕ, suc, ◌+◌, ◌-◌, ◌≤◌, ◌<◌}
use mathlib.Core.Path.{◌≡◌, refl, ◌∙◌}
use mathlib.Core.List.{List, [], ◌∷◌, map}
use mathlib.Core.Bool.{Bool, true, false, ◌&&◌, ◌||◌}
use mathlib.Core.Logic.{inl, inr}
use native.Mathlib.Omega.{arith}
use borrow.Author.Tests.{eq-eqb, ne_eqb, le-leb, lt-leb}
use types.Run.{OneOf}
use lib.Dec.{leb}
use lib.ListN.{length, take, drop, get_or, drop_of_length-le}
use Rattle.decode.specs.Read.{group_of}
use Rattle.decode_image.specs.Read.{block_of}
use Rattle.decode_image.specs.declared.Block.{Block}
use Rattle.schedule.specs.declared.Point.{Point}
use Rattle.state.specs.Groups.{no_pair, held_pairs}
use Rattle.state.specs.declared.Groups.{Groups}
use Rattle.tlv.specs.Record.{valued, records, readable, record_at, records_from, padded_among}
use Rattle.tlv.specs.declared.Record.{Record}
use Rattle.tlv.proofs.Laws.{records-end, records-more, records-unreadable}
use Rattle.buffer.specs.Listed.{listed}
use Rattle.buffer.proofs.Tests.{head}
use Rattle.post.specs.Value.{reading_at, is_padded, is_expired, is_forbidden, any_pair, has_pair, match_of, is_match}
use Rattle.post.specs.Judge.{noted, seen_of, nothing_seen, sealed, looked_at, padded_in, LookedBy}
use Rattle.post.specs.declared.Looked.{Looked}
use Rattle.post.specs.declared.Seen.{Seen}

-- the types that may not be posted, as a match tests them: some alone, the others by their range
pub forbidden-alone : (k : ℕ) → OneOf (7 ∷ 13 ∷ 18 ∷ 55 ∷ 58 ∷ []) k → is_forbidden k ≡ true
unfolding is_forbidden listed
forbidden-alone k (inl e) = rw e
forbidden-alone k (inr (inl e)) = rw e
forbidden-alone k (inr (inr (inl e))) = rw e
forbidden-alone k (inr (inr (inr (inl e)))) = rw e
forbidden-alone k (inr (inr (inr (inr e)))) = rw e

pub forbidden-8 : (k : ℕ) → k ≡ 8 → is_forbidden k ≡ true
unfolding is_forbidden listed
forbidden-8 k e = rw e

module _ (k : ℕ) (h : OneOf (7 ∷ 13 ∷ 18 ∷ 55 ∷ 58 ∷ []) k → ⊥) (g : k ≡ 8 → ⊥) where
  apart : is_forbidden k ≡ (leb 71 k && leb k 75)
  unfolding is_forbidden listed
  apart =
      rw (ne_eqb k 7 (λ q. h (inl q)), ne_eqb k 8 g, ne_eqb k 13 (λ q. h (inr (inl q))), ne_eqb k 18 (λ q. h (inr (inr (inl q)))), ne_eqb k 55 (λ q. h (inr (inr (inr (inl q))))), ne_eqb k 58 (λ q. h (inr (inr (inr (inr q))))))

  pub forbidden-71-to-75 : 71 ≤ k → k < 76 → is_forbidden k ≡ true
  forbidden-71-to-75 l m =
      let n : k ≤ 75 = omega arith in
      apart ∙ rw (le-leb 71 k l, le-leb k 75 n)

  pub free-below-71 : k < 71 → is_forbidden k ≡ false
  free-below-71 l = apart ∙ rw (lt-leb 71 k l)

  pub free-from-76 : 76 ≤ k → is_forbidden k ≡ false
  free-from-76 l =
      let n : 71 ≤ k = omega arith in
      apart ∙ rw (le-leb 71 k n, lt-leb k 75 l)

-- the pairs held from a place of the list on
unfoldable pub pair_from : Groups → ℕ → ℕ → ℕ → Bool
pair_from g i kind id = any_pair (drop i (held_pairs g)) kind id

module _ (g : Groups) (i kind id : ℕ) where
  pub pair_end : length (held_pairs g) ≤ i → pair_from g i kind id ≡ false
  unfolding pair_from any_pair
  pair_end h = rw (drop_of_length-le (held_pairs g) {i = i} h)

  module _ (h : i < g.count) (l : i < length g.list) where
    pub pair-here : (get_or g.list i no_pair).kind ≡ kind → (get_or g.list i no_pair).id ≡ id → pair_from g i kind id ≡ true
    unfolding pair_from any_pair
    pair-here a b = rw (head g.list g.count i no_pair h l, eq-eqb (get_or g.list i no_pair).kind kind a, eq-eqb (get_or g.list i no_pair).id id b)

    pub pair-kind : ((get_or g.list i no_pair).kind ≡ kind → ⊥) → pair_from g i kind id ≡ pair_from g (i + 1) kind id
    unfolding pair_from any_pair
    pair-kind a =
        let e : i + 1 ≡ suc i = omega arith in
        rw (e, head g.list g.count i no_pair h l, ne_eqb (get_or g.list i no_pair).kind kind a)

    pub pair-id : (get_or g.list i no_pair).kind ≡ kind → ((get_or g.list i no_pair).id ≡ id → ⊥) → pair_from g i kind id ≡ pair_from g (i + 1) kind id
    unfolding pair_from any_pair
    pair-id a b =
        let e : i + 1 ≡ suc i = omega arith in
        rw (e, head g.list g.count i no_pair h l, eq-eqb (get_or g.list i no_pair).kind kind a, ne_eqb (get_or g.list i no_pair).id id b)

pub pair-start : (g : Groups) (kind id : ℕ) → has_pair g kind id ≡ pair_from g 0 kind id
unfolding has_pair pair_from
pair-start g kind id = refl

-- a record that names a group
module _ (k : ℕ) (v : List ℕ) (g : Groups) where
  pub match-other : (k ≡ 57 → ⊥) → is_match k v g ≡ false
  unfolding is_match
  match-other h = rw (ne_eqb k 57 h)

  module _ (h : k ≡ 57) where
    pub match-no-kind : (group_of v).kind ≡ None → is_match k v g ≡ false
    unfolding is_match match_of
    match-no-kind a = rw (eq-eqb k 57 h, a)

    pub match-no-id : (kind : ℕ) → (group_of v).kind ≡ Some kind → (group_of v).id ≡ None → is_match k v g ≡ false
    unfolding is_match match_of
    match-no-id kind a b = rw (eq-eqb k 57 h, a, b)

    pub match-pair : (kind id : ℕ) → (group_of v).kind ≡ Some kind → (group_of v).id ≡ Some id → is_match k v g ≡ has_pair g kind id
    unfolding is_match match_of
    match-pair kind id a b = rw (eq-eqb k 57 h, a, b)

-- what there is to see from a position on, with what was seen before it
module _ (g : Groups) (t : Point) where
  pub noted-count : (s : Seen) (k : ℕ) (v : List ℕ) (n : Seen) → n ≡ noted g t s k v → n.records ≡ s.records + 1
  unfolding noted
  noted-count s k v n e = rw e

  unfoldable pub looked_from : List ℕ → ℕ → Seen → Seen
  looked_from p at seen = sealed (records_from p at).whole (seen_of g t seen (map (valued p) (records_from p at).items))

  module _ (p : List ℕ) where
    pub large-seen : {seen : Seen} → seen ≡ nothing_seen → 1280 < length p → sealed false seen ≡ looked_at g t p
    unfolding looked_at
    large-seen e h = rw (e, lt-leb (length p) 1280 h)

    pub start_seen : {seen : Seen} → seen ≡ nothing_seen → length p ≤ 1280 → looked_at g t p ≡ looked_from p 0 seen
    unfolding looked_at looked_from records readable
    start_seen e h = rw (e, le-leb (length p) 1280 h)

    module _ (at : ℕ) (seen : Seen) where
      pub looked-end : length p ≤ at → looked_from p at seen ≡ sealed true seen
      unfolding looked_from seen_of
      looked-end h = rw (records-end p at h)

      pub looked-unreadable : at < length p → record_at p at ≡ None → looked_from p at seen ≡ sealed false seen
      unfolding looked_from seen_of
      looked-unreadable h e = rw (records-unreadable p at h e)

      pub looked-next : (r : Record) (n : Seen) → record_at p at ≡ Some r → n ≡ noted g t seen r.kind (valued p r).value → looked_from p at seen ≡ looked_from p r.end n
      unfolding looked_from seen_of
      looked-next r n e h = rw (records-more p at r e, h)

      pub looked-block : (r : Record) (n : Seen) → record_at p at ≡ Some r → r.kind ≡ 67 → n ≡ noted g t seen 67 (valued p r).value → looked_from p at seen ≡ looked_from p r.end n
      looked-block r n e k h = looked-next r n e (rw k h)

    -- what the walk leaves
    pub looked-by : {seen : Seen} {padded : Bool} {from to : ℕ} {block : Block} {r : Looked}
        → r ≡ record { seen = seen; padded = padded; start = from; «end» = to; block = block } → seen ≡ looked_at g t p → padded ≡ padded_in p → block ≡ block_of (take (to - from) (drop from p)) → LookedBy g t p r
    looked-by e a c b = rw e (record { seen = a; padded = c; block = b })

-- a payload that is not longer
pub padded-small : (p : List ℕ) {b : Bool} → length p ≤ 1280 → b ≡ padded_among is_padded (records p) → b ≡ padded_in p
unfolding padded_in
padded-small p h e = rw (le-leb (length p) 1280 h) e

pub padded-large : (p : List ℕ) → 1280 < length p → false ≡ padded_in p
unfolding padded_in
padded-large p h = rw (lt-leb (length p) 1280 h)

pub padded-block : (k : ℕ) (v : List ℕ) {b : Block} → k ≡ 67 → b ≡ block_of v → b.reading.padded ≡ is_padded k v
unfolding reading_at
padded-block k v h e = rw (h, e)

pub none_seen : {seen : Seen} → seen ≡ nothing_seen → seen.records ≤ 0
none_seen e = rw e (omega arith)

-- before the first ImageBlock: a value of no bytes
pub block_start : (p : List ℕ) {block : Block} → block ≡ block_of [] → block ≡ block_of (take (0 - 0) (drop 0 p))
block_start p e = e

-- an ImageBlock says only whether it can be read
or-false : (b : Bool) → (b || false) ≡ b
or-false true = refl
or-false false = refl

pub noted-block : (g : Groups) (t : Point) (s : Seen) (v : List ℕ) (b : Block) → b ≡ block_of v
    → record {
      records = s.records + 1;
      readable = s.readable && b.reading.readable;
      signed = s.signed;
      expired = s.expired;
      grouped = s.grouped;
      matched = s.matched;
      forbidden = s.forbidden;
    } ≡ noted g t s 67 v
unfolding noted reading_at is_expired is_match is_forbidden listed
noted-block g t s v b e = rw (e, or-false s.signed, or-false s.expired, or-false s.grouped, or-false s.matched, or-false s.forbidden)
