-- Laws of a redirect: what each test of the code says of the definitions.
use Rattle.std.specs.Prelude.{None, Some}
use Prim.Native.Nat.{ℕ, ◌-◌, ◌≤◌}
use mathlib.Core.Path.{◌≡◌, refl}
use mathlib.Core.List.{List, [], ◌∷◌}
use mathlib.Core.Bool.{Bool, true, false, not}
use native.Mathlib.Omega.{arith}
use borrow.Author.Tests.{eqb-true, eqb-false, eq-eqb, ne_eqb}
use lib.Dec.{eqb}
use lib.ListN.{length, take, drop, length-take, length-drop}
use Rattle.decode.specs.Read.{redirect_of}
use Rattle.decode.specs.declared.Redirect.{Redirect}
use Rattle.csmp.specs.Tables.{redirect}
use Rattle.tables.specs.Found.{found_in, bytes_in}
use Rattle.tables.proofs.TableLies.{lies, place-within}
use Rattle.state.specs.Setup.{url_of}
use Rattle.state.specs.declared.Device.{Device}
use Rattle.state.specs.declared.Registration.{Registration}
use Rattle.registration.specs.Redirect.{restarted, is_set, followed, follow, url_in, redirected}
use Rattle.protobuf.specs.Given.{spanning}
use Rattle.buffer.specs.declared.text.Text.{Text}

-- a URL that is there lies in the value
pub url-inside : (v : List ℕ) (m : Redirect) (start stop : ℕ) → m ≡ redirect_of v → m.url ≡ spanning start stop → (start ≤ stop) × (stop ≤ length v)
unfolding redirect_of
url-inside v m start stop e h =
    let c = (found_in redirect v).0.0 in
    let k : bytes_in c ≡ spanning start stop = rw e at h in
    place-within v c (lies redirect v).0 start stop k

module _ (d : Device) (r : Registration) (v : List ℕ) (m : Redirect) (e : m ≡ redirect_of v) where
  pub redirect-absent : m.url ≡ None → redirected d r v ≡ r
  unfolding redirected url_in follow
  redirect-absent h = rw (rw e at h)

  module _ (start stop : ℕ) (h : m.url ≡ spanning start stop) where
    pub redirect-empty : start ≡ stop → redirected d r v ≡ r
    unfolding redirected url_in follow
    redirect-empty k =
        let z : stop - start ≡ 0 = omega arith in
        rw (rw e at h, z)

    pub redirect-taken : (start ≡ stop → ⊥) → (url : Text 128) → url ≡ url_of (take (stop - start) (drop start v)) → (now : Bool) → now ≡ is_set m.immediate
        → redirected d r v ≡ restarted d r url now
    unfolding redirected url_in follow
    redirect-taken k url u now f =
        let i = url-inside v m start stop e h in
        rw (rw e at h, f, u, e)
        (go (take (stop - start) (drop start v)) (simp (length-take, length-drop) (omega arith)))
      where
        go : (l : List ℕ) → (length l ≡ 0 → ⊥) → follow d r (Some l) (is_set (redirect_of v).immediate) ≡ restarted d r (url_of l) (is_set (redirect_of v).immediate)
        go [] k = absurd (k refl)
        go (b ∷ bs) k = refl

-- whether it is followed
followed-some : (l : List ℕ) → followed (Some l) ≡ not (eqb (length l) 0)
unfolding followed
followed-some [] = refl
followed-some (b ∷ bs) = rw (ne_eqb (length (b ∷ bs)) 0 (λ q. omega arith))

same_end : (start stop : ℕ) → start ≤ stop → eqb (stop - start) 0 ≡ eqb start stop
same_end start stop h = go (eqb start stop) refl
  where
    go : (t : Bool) → eqb start stop ≡ t → eqb (stop - start) 0 ≡ t
    go true e = let k = eqb-true start stop e in eq-eqb (stop - start) 0 (omega arith)
    go false e = ne_eqb (stop - start) 0 (λ q. eqb-false start stop e (omega arith))

module _ (v : List ℕ) (m : Redirect) (e : m ≡ redirect_of v) where
  pub follows-none : m.url ≡ None → followed (url_in v) ≡ false
  unfolding url_in followed
  follows-none h = rw (rw e at h)

  pub follows-some : (start stop : ℕ) → m.url ≡ spanning start stop → followed (url_in v) ≡ not (eqb start stop)
  unfolding url_in
  follows-some start stop h =
      let i = url-inside v m start stop e h in
      let l : length (take (stop - start) (drop start v)) ≡ stop - start = simp (length-take, length-drop) (omega arith) in
      rw (rw e at h, followed-some (take (stop - start) (drop start v)), l, same_end start stop i.0)
