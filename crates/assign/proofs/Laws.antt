-- Laws of a session and of a GroupAssign.
use Rattle.std.specs.Prelude.{None, Some}
use Prim.Native.Nat.{ℕ, suc, ◌+◌, ◌-◌, ◌≤◌, ◌<◌}
use mathlib.Core.Path.{◌≡◌}
use mathlib.Core.List.{List}
use mathlib.Core.Bool.{true}
use native.Mathlib.Omega.{arith}
use borrow.Author.Tests.{eq-eqb, ne_eqb, lt-ltb, le-ltb, le-leb, lt-leb}
use lib.ListN.{length, take, drop, set, drop_of_length-le}
use Rattle.decode.specs.Read.{session_of}
use Rattle.decode.specs.declared.Session.{Session}
use Rattle.csmp.specs.Tables.{session}
use Rattle.tables.specs.Found.{found_in, bytes_in}
use Rattle.tables.proofs.TableLies.{lies, place-within}
use Rattle.buffer.proofs.Tests.{head}
use Rattle.state.specs.Groups.{held_pairs, no_pair, type_at}
use Rattle.state.specs.declared.Assigned.{Assigned}
use Rattle.state.specs.declared.Groups.{Groups}
use Rattle.assign.specs.Assign.{session_id_of, with_session, place_in, place_of, with_pair, regrouped}
use Rattle.protobuf.specs.Given.{spanning}
use Rattle.buffer.specs.declared.text.Text.{Text}

-- a session: its id lies in the value
module _ (a : Assigned) (v : List ℕ) (m : Session) (e : m ≡ session_of v) where
  pub id-inside : (start stop : ℕ) → m.id ≡ spanning start stop → (start ≤ stop) × (stop ≤ length v)
  unfolding session_of
  id-inside start stop h =
      let c = (found_in session v).0.0 in
      let k : bytes_in c ≡ spanning start stop = rw e at h in
      place-within v c (lies session v).0 start stop k

  pub session-none : m.id ≡ None → with_session a v ≡ a
  unfolding with_session
  session-none h = rw (rw e at h)

  pub session-some : (start stop : ℕ) → m.id ≡ spanning start stop → (s : Text 64) → s ≡ session_id_of (take (stop - start) (drop start v))
      → with_session a v ≡ record {
        groups = a.groups;
        in_session = true;
        session = s;
        reporting = a.reporting;
        interval = a.interval;
        ids = a.ids;
      }
  unfolding with_session
  session-some start stop h s k = rw (rw e at h, k)

-- the place of a type, from a place of the list on
unfoldable pub place_from : Groups → ℕ → ℕ → ℕ
place_from g i kind = place_in (drop i (held_pairs g)) kind + i

pub place-start : (g : Groups) (kind : ℕ) → place_of g kind ≡ place_from g 0 kind
unfolding place_from
place-start g kind = omega arith

module _ (g : Groups) (i kind : ℕ) where
  pub place_end : length (held_pairs g) ≤ i → place_from g i kind ≡ i
  unfolding place_from place_in
  place_end h = rw (drop_of_length-le (held_pairs g) {i = i} h) (omega arith)

  module _ (h : i < g.count) (l : i < length g.list) where
    pub place_here : type_at g i ≡ kind → place_from g i kind ≡ i
    unfolding place_from place_in
    place_here a = rw (head g.list g.count i no_pair h l, eq-eqb (type_at g i) kind a) (omega arith)

    pub place-next : (type_at g i ≡ kind → ⊥) → place_from g i kind ≡ place_from g (i + 1) kind
    unfolding place_from place_in
    place-next a =
        let e : i + 1 ≡ suc i = omega arith in
        rw (e, head g.list g.count i no_pair h l, ne_eqb (type_at g i) kind a) (omega arith)

-- a pair at its place
module _ (g : Groups) (kind id place : ℕ) (e : place ≡ place_of g kind) where
  pub pair-replaced : place < g.count → record { list = set g.list place (record { kind = kind; id = id }); count = g.count } ≡ with_pair g kind id
  unfolding with_pair
  pair-replaced h = rw (← e, lt-ltb place g.count h)

  pub pair-added : g.count ≤ place → record { list = set g.list place (record { kind = kind; id = id }); count = place + 1 } ≡ with_pair g kind id
  unfolding with_pair
  pair-added h = rw (← e, le-ltb place g.count h)

module _ (g : Groups) (kind id place : ℕ) (e : place ≡ place_of g kind) where
  pub regrouped-not : 8 ≤ place → None ≡ regrouped g kind id
  unfolding regrouped
  regrouped-not h = rw (← e, le-leb 8 place h)

  pub regrouped-pair : place < 8 → (h : Groups) → h ≡ with_pair g kind id → Some h ≡ regrouped g kind id
  unfolding regrouped
  regrouped-pair l h f = rw (← e, lt-leb 8 place l, f)
