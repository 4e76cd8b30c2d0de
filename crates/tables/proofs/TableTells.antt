-- What the walk over a message finds tells the values that its table reads.
use Rattle.std.specs.Prelude.{None, Option, Some}
use Prim.Native.Nat.{ℕ, zero, suc, ◌+◌, ◌-◌, ◌≤◌, ◌<◌}
use mathlib.Core.Path.{◌≡◌, refl, sym, ap, ◌∙◌, subst}
use mathlib.Core.List.{List, [], ◌∷◌, ◌++◌, map, map-map, append-nil, append_assoc}
use mathlib.Core.Bool.{Bool, true, false, ◌&&◌}
use native.Mathlib.Omega.{arith}
use borrow.Author.Tests.{ltb-true, ltb-false, eqb-true, eq-eqb, ne_eqb}
use lib.Dec.{eqb, ltb}
use lib.ListN.{length, take, drop, length-append, length-map, length-take}
use lib.Seq.{take-length, take-take, take-nil, drop-drop}
use Rattle.buffer.specs.Pick.{pick}
use Rattle.protobuf.specs.Each.{Each}
use Rattle.protobuf.specs.Field.{fields}
use Rattle.protobuf.proofs.EachLaws.{each-so, each_over}
use Rattle.protobuf.proofs.FieldLaws.{Follows, fields-follow}
use Rattle.message.specs.Read.{wire_of, count_more, number_of, flag_of, place_of}
use Rattle.tables.specs.Statements.{counted, Tells, TellsAll}
use Rattle.tables.specs.Table.{Kind, uint32, bool, bytes, string, strings, message, messages, Table, end, row, Value, Content, contents, alike, last_one, as_number, as_flag, as_bytes, merged, where_any, value_of, values_of, read_by}
use Rattle.tables.specs.Found.{wire_of_kind, Cell, no_cell, Held, Found, none_held, none_found, Placed, placed_at, placed, is_of, cell_with, each_in, held_with, found_with, found_in}
use Rattle.tables.proofs.TableValues.{alike-append}

-- a stretch of a stretch
take_within : (k st len : ℕ) (l : List ℕ) → st + k ≤ len → take k (drop st (take len l)) ≡ take k (drop st l)
take_within k zero len l h = take-take k len l (omega arith)
take_within k (suc st) len [] h = rw (take-nil len)
take_within k (suc st) zero (a ∷ l) h = absurd (omega arith)
take_within k (suc st) (suc len) (a ∷ l) h = take_within k st len l (omega arith)

-- a field of a part holds the same bytes by its place in the whole
moved-bytes : (s : List ℕ) (base len start stop : ℕ) → start ≤ stop → stop ≤ length (take len (drop base s))
    → take (base + stop - (base + start)) (drop (base + start) s) ≡ take (stop - start) (drop start (take len (drop base s)))
moved-bytes s base len start stop h k =
    let e : base + stop - (base + start) ≡ stop - start = omega arith in
    rw (e, take_within (stop - start) start len (drop base s) (let m = length-take len (drop base s) in omega arith), drop-drop start base s)

-- a field whose bytes stand at its place in the whole value; so do those of the message that it holds
abbrev In : List ℕ → Placed → Type 0
In s p = take (p.stop - p.start) (drop p.start s) ≡ p.content.bytes

placed-in : (s : List ℕ) (base len : ℕ) → Each (In s) (placed base (take len (drop base s)))
unfolding placed
placed-in s base len =
    let part = take len (drop base s) in
    each_over (In s) (placed_at base part) (fields part).items
    (each-so (Follows part 0) _ (λ f h. moved-bytes s base len f.start f.end h.1 h.2) (fields part).items (fields-follow part 0))

placed-contents : (base : ℕ) (s : List ℕ) → map (λ (p : Placed). p.content) (placed base s) ≡ contents s
unfolding placed contents
placed-contents base s = map-map (λ (p : Placed). p.content) (placed_at base s) (fields s).items

-- one more at the end
alike-more : (n w : ℕ) (l : List Content) (f : Content)
    → alike n w (l ++ (f ∷ [])) ≡ pick (eqb f.number n && eqb f.wire w) (alike n w l ++ (f ∷ [])) (alike n w l)
unfolding alike
alike-more n w l f = alike-append n w l (f ∷ []) ∙ go (eqb f.number n) (eqb f.wire w)
  where
    go : (t u : Bool) → alike n w l ++ pick t (pick u (f ∷ []) []) [] ≡ pick (t && u) (alike n w l ++ (f ∷ [])) (alike n w l)
    go true true = refl
    go true false = append-nil (alike n w l)
    go false u = append-nil (alike n w l)

last_more : {A : Type 0} (g : Content → A) (v : Option A) (l : List Content) (f : Content) → last_one g v (l ++ (f ∷ [])) ≡ Some (g f)
unfolding last_one
last_more g v [] f = refl
last_more g v (h ∷ l) f = last_more g (Some (g h)) l f

merged-more : (l : List Content) (f : Content) → merged (l ++ (f ∷ [])) ≡ merged l ++ contents f.bytes
unfolding merged
merged-more [] f = append-nil (contents f.bytes)
merged-more (h ∷ l) f = rw (merged-more l f) (sym (append_assoc (contents h.bytes) (merged l) (contents f.bytes)))

where-more : {A : Type 0} (read : List Content → A) (l : List Content) (f : Content) → where_any read (l ++ (f ∷ [])) ≡ Some (read (merged l ++ contents f.bytes))
unfolding where_any
where-more read [] f = ap (λ (x : List Content). Some (read x)) (merged-more [] f)
where-more read (h ∷ l) f = ap (λ (x : List Content). Some (read x)) (merged-more (h ∷ l) f)

counted-more : {A : Type 0} (g : Content → A) (l : List Content) (f : Content) (c : ℕ) → c ≡ counted (length (map g l))
    → count_more c ≡ counted (length (map g (l ++ (f ∷ []))))
unfolding count_more
counted-more g l f c h = simp (length-map, length-append) (go (ltb c 4294967295) refl (simp length-map at h))
  where
    go : (t : Bool) → ltb c 4294967295 ≡ t → c ≡ counted (length l) → pick t (c + 1) c ≡ counted (length l + 1)
    go true e k = omega (arith, ltb-true c 4294967295 e)
    go false e k = omega (arith, ltb-false c 4294967295 e)

more-positive : (n : ℕ) → 0 < count_more n
unfolding count_more
more-positive n = go (ltb n 4294967295) refl
  where
    go : (t : Bool) → ltb n 4294967295 ≡ t → 0 < pick t (n + 1) n
    go true e = omega arith
    go false e = omega (arith, ltb-false n 4294967295 e)

more-some : (n : ℕ) → eqb (count_more n) 0 ≡ false
more-some n = ne_eqb (count_more n) 0 (let h = more-positive n in omega arith)

-- a row's value by the fields that count for it
unfoldable valued : (k : Kind) → List Content → Value k
valued uint32 l = last_one as_number None l
valued bool l = last_one as_flag None l
valued bytes l = last_one as_bytes None l
valued string l = last_one as_bytes None l
valued strings l = map as_bytes l
valued (message T) l = where_any (values_of T) l
valued (messages T) l = map (λ (f : Content). values_of T (contents f.bytes)) l

value-by : (k : Kind) (n : ℕ) (l : List Content) → value_of k n l ≡ valued k (alike n (wire_of_kind k) l)
unfolding value_of valued wire_of
value-by uint32 n l = refl
value-by bool n l = refl
value-by bytes n l = refl
value-by string n l = refl
value-by strings n l = refl
value-by (message T) n l = refl
value-by (messages T) n l = refl

module _ (s : List ℕ) where
  -- before the first field
  none_told : (k : Kind) → Tells s k (no_cell, none_held k) (valued k [])
  unfolding valued none_held last_one where_any number_of flag_of place_of
  none_told uint32 = refl
  none_told bool = refl
  none_told bytes = refl
  none_told string = refl
  none_told strings = refl
  none_told (message T) = (refl, refl)
  none_told (messages T) = refl

  none-tells : (T : Table) → TellsAll s T (none_found T) (values_of T [])
  unfolding none_found values_of alike
  none-tells end = tt
  none-tells (row n k T) = (rw (value-by k n []) (none_told k), none-tells T)

  -- what is found after one field more tells the values with its content
  abbrev Goes : Table → Type 0
  Goes T = (g : Found T) (l : List Content) (p : Placed) → In s p → TellsAll s T g (values_of T l) → TellsAll s T (found_with T g p) (values_of T (l ++ (p.content ∷ [])))

  -- so it is with the fields of a message, one after the other
  each_tells : (T : Table) → Goes T → (ps : List Placed) → Each (In s) ps → (g : Found T) (l : List Content) → TellsAll s T g (values_of T l)
      → TellsAll s T (each_in (found_with T) g ps) (values_of T (l ++ map (λ (p : Placed). p.content) ps))
  unfolding each_in
  each_tells T go [] i g l h = rw (append-nil l) h
  each_tells T go (p ∷ ps) i g l h =
      rw (append_assoc l (p.content ∷ []) (map (λ (q : Placed). q.content) ps))
      at (each_tells T go ps i.1 (found_with T g p) (l ++ (p.content ∷ [])) (go g l p i.0 h))

  -- and with a message at its place
  part-tells : (T : Table) → Goes T → (base len : ℕ) (bs : List ℕ) → take len (drop base s) ≡ bs → (g : Found T) (l : List Content) → TellsAll s T g (values_of T l)
      → TellsAll s T (each_in (found_with T) g (placed base bs)) (values_of T (l ++ contents bs))
  part-tells T go base len bs e g l h =
      rw (placed-contents base bs)
      at (each_tells T go (placed base bs) (subst (λ (x : List ℕ). Each (In s) (placed base x)) e (placed-in s base len)) g l h)

  -- the parts that were found before
  parts-told : (T : Table) (c : Cell × Found T) (l : List Content) → Tells s (message T) c (valued (message T) l) → TellsAll s T c.1 (values_of T (merged l))
  unfolding valued where_any merged
  parts-told T c [] h = rw h.1 (none-tells T)
  parts-told T c (f ∷ l) h = h.1

  -- a field that counts for a row, and one that does not
  row-tells : (n : ℕ) (k : Kind) (c : Cell × Held k) (l : List Content) (p : Placed)
      → ((m : List Content) → p.content.wire ≡ wire_of_kind k → Tells s k c (valued k m) → Tells s k (cell_with c.0 p, held_with k c.1 p) (valued k (m ++ (p.content ∷ []))))
      → Tells s k c (value_of k n l)
      → Tells s k (pick (is_of n (wire_of_kind k) p) (cell_with c.0 p, held_with k c.1 p) c) (value_of k n (l ++ (p.content ∷ [])))
  row-tells n k c l p step h =
      let w = wire_of_kind k in
      rw (value-by k n (l ++ (p.content ∷ [])), alike-more n w l p.content)
      (go (eqb p.content.number n) (eqb p.content.wire w) refl (alike n w l) (rw (value-by k n l) at h))
    where
      go : (t u : Bool) → eqb p.content.wire (wire_of_kind k) ≡ u → (m : List Content) → Tells s k c (valued k m)
          → Tells s k (pick (t && u) (cell_with c.0 p, held_with k c.1 p) c) (valued k (pick (t && u) (m ++ (p.content ∷ [])) m))
      go true true e m q = step m (eqb-true _ _ e) q
      go true false e m q = q
      go false u e m q = q

  mutual
    unfolding valued values_of wire_of cell_with found_with number_of flag_of place_of

    kind-tells : (k : Kind) (c : Cell × Held k) (p : Placed) → In s p → (l : List Content) → p.content.wire ≡ wire_of_kind k → Tells s k c (valued k l)
        → Tells s k (cell_with c.0 p, held_with k c.1 p) (valued k (l ++ (p.content ∷ [])))
    kind-tells uint32 c p i l w h = rw (last_more as_number None l p.content, more-some c.0.count, eq-eqb p.content.wire 0 w)
    kind-tells bool c p i l w h = rw (last_more as_flag None l p.content, more-some c.0.count, eq-eqb p.content.wire 0 w)
    kind-tells bytes c p i l w h = rw (last_more as_bytes None l p.content, more-some c.0.count, ne_eqb p.content.wire 0 (omega arith)) (ap Some i)
    kind-tells string c p i l w h = rw (last_more as_bytes None l p.content, more-some c.0.count, ne_eqb p.content.wire 0 (omega arith)) (ap Some i)
    kind-tells strings c p i l w h = counted-more as_bytes l p.content c.0.count h
    kind-tells (message T) c p i l w h =
        rw (where-more (values_of T) l p.content)
        (more-positive c.0.count, part-tells T (λ g m q j x. table-tells T g m q j x) p.start (p.stop - p.start) p.content.bytes i c.1 (merged l) (parts-told T c l h))
    kind-tells (messages T) c p i l w h = counted-more (λ (f : Content). values_of T (contents f.bytes)) l p.content c.0.count h

    table-tells : (T : Table) → Goes T
    table-tells end g l p i h = tt
    table-tells (row n k T) g l p i h = (row-tells n k g.0 l p (λ m w q. kind-tells k g.0 p i m w q) h.0, table-tells T g.1 l p i h.1)

pub tells : (T : Table) (s : List ℕ) → TellsAll s T (found_in T s) (read_by T s)
unfolding found_in read_by
tells T s = part-tells s T (table-tells s T) 0 (length s) s (take-length s) (none_found T) [] (none-tells s T)
