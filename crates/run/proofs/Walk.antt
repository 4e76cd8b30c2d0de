-- Laws of the loop over a payload's records: what they did so far, and what those that are left do.
use Rattle.std.specs.Prelude.{None, Some}
use Prim.Native.Nat.{ℕ, ◌+◌, ◌*◌, ◌≤◌, ◌<◌}
use mathlib.Core.Path.{◌≡◌, refl, ap, ◌∙◌}
use mathlib.Core.List.{List, [], ◌∷◌, ◌++◌}
use mathlib.Core.Bool.{true, false}
use native.Mathlib.Omega.{arith}
use lib.ListN.{length, length-append}
use lib.Seq.{sets, length-sets}
use Rattle.buffer.specs.Put.{Put, placed, after}
use Rattle.buffer.proofs.Puts.{sets-append}
use Rattle.buffer.proofs.Stretches.{fits-true}
use Rattle.state.specs.declared.Device.{Device}
use Rattle.tlv.specs.Record.{valued, records, record_at}
use Rattle.tlv.specs.declared.Record.{Record}
use Rattle.tlv.proofs.Laws.{records-end, records-more, records-unreadable}
use Rattle.step.specs.Step.{World, world_of, act, response, is_request}
use Rattle.run.specs.Run.{records_at, ran, responses, RanBy, any_answered}
use Rattle.answer.specs.declared.Ran.{Ran}
use Rattle.run.proofs.Bounds.{response-most}

-- the records of a payload are those from its begin on
pub at-start : (p : List ℕ) → records p ≡ records_at p 0
unfolding records records_at
at-start p = refl

pub at-end : (p : List ℕ) (at : ℕ) → length p ≤ at → records_at p at ≡ []
unfolding records_at
at-end p at h = rw (records-end p at h)

pub at-unreadable : (p : List ℕ) (at : ℕ) → at < length p → record_at p at ≡ None → records_at p at ≡ []
unfolding records_at
at-unreadable p at h e = rw (records-unreadable p at h e)

pub at_next : (p : List ℕ) (at : ℕ) (r : Record) → record_at p at ≡ Some r → records_at p at ≡ valued p r ∷ records_at p r.end
unfolding records_at
at_next p at r e = rw (records-more p at r e)

-- where the loop stands at `cur` with world `w` and output `out`, the records that are left lead to what all those from `from` on lead to
pub record Going (d : Device) (w₀ : World) (p : List ℕ) (from : ℕ) (out₀ : List ℕ) (at cur : ℕ) (w : World) (out : List ℕ) (end : ℕ) : Type 0 where
  pub world : ran d w (records_at p cur) ≡ ran d w₀ (records_at p from)
  pub bytes : sets out end (responses d w (records_at p cur)) ≡ sets out₀ at (responses d w₀ (records_at p from))
  pub position : end + length (responses d w (records_at p cur)) ≡ at + length (responses d w₀ (records_at p from))
  pub room : end + 48 * length (records_at p cur) ≤ length out
  pub kept : length out ≡ length out₀

module _ (d : Device) (w₀ : World) (p : List ℕ) (from : ℕ) (out₀ : List ℕ) (at : ℕ) where
  pub going_start : at + 48 * length (records_at p from) ≤ length out₀ → Going d w₀ p from out₀ at from w₀ out₀ at
  going_start h = record { world = refl; bytes = refl; position = refl; room = h; kept = refl }

  pub going_end : (cur : ℕ) {next : Ran} {flash left : List ℕ} → Going d w₀ p from out₀ at cur (world_of next flash) left next.end → records_at p cur ≡ []
      → RanBy d w₀ (records_at p from) out₀ at next flash left
  unfolding ran responses
  going_end cur {next} {flash} {left} g e =
      let r = g.room in
      record {
        world = rw e at g.world;
        bytes = rw e at g.bytes;
        position = omega (arith, rw e at g.position);
        inside = omega (arith, g.kept);
      }

  pub going_next : (cur : ℕ) (w : World) (out : List ℕ) (end : ℕ) (r : Record) (next : World) (left : List ℕ) (m : ℕ)
      → Going d w₀ p from out₀ at cur w out end → record_at p cur ≡ Some r → next ≡ act d w r.kind (valued p r).value
      → Put out end (response d w r.kind (valued p r).value) left m → Going d w₀ p from out₀ at r.end next left m
  unfolding ran responses placed after
  going_next cur w out end r next left m g e n q =
      let x = response d w r.kind (valued p r).value in
      let y = responses d (act d w r.kind (valued p r).value) (records_at p r.end) in
      let k = at_next p cur r e in
      let s = response-most d w r.kind (valued p r).value in
      let z : end + (48 * (1 + length (records_at p r.end))) ≤ length out = omega (arith, rw k at g.room) in
      let f = fits-true (length out) end (length x) (omega arith) in
      let fl : left ≡ sets out end x = rw f at q.bytes in
      let fm : m ≡ end + length x = rw f at q.position in
      let l : length left ≡ length out = ap length fl ∙ length-sets out end x in
      let o : end + length (x ++ y) ≡ at + length (responses d w₀ (records_at p from)) = rw k at g.position in
      record {
        world = rw n (rw k at g.world);
        bytes = rw (n, fl, fm, ← sets-append x out y end) (rw k at g.bytes);
        position = rw n (omega (arith, length-append x y));
        room = omega arith;
        kept = l ∙ g.kept;
      }

-- whether a record from where the loop stands on is answered
pub answered-end : (p : List ℕ) (at : ℕ) → records_at p at ≡ [] → any_answered (records_at p at) ≡ false
unfolding any_answered
answered-end p at e = rw e

module _ (p : List ℕ) (at : ℕ) (r : Record) (e : record_at p at ≡ Some r) where
  pub answered-here : is_request r.kind ≡ true → any_answered (records_at p at) ≡ true
  unfolding any_answered
  answered-here h = rw (at_next p at r e, h)

  pub answered-next : is_request r.kind ≡ false → any_answered (records_at p at) ≡ any_answered (records_at p r.end)
  unfolding any_answered
  answered-next h = rw (at_next p at r e, h)
