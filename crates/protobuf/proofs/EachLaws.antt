-- What holds of the one that is picked, of each of a list, and of each item of a walk.
use Prim.Native.Nat.{ℕ, zero, suc, ◌≤◌}
use mathlib.Core.Path.{◌≡◌, refl}
use mathlib.Core.List.{List, [], ◌∷◌, ◌++◌, map}
use mathlib.Core.Bool.{Bool, true, false}
use native.Mathlib.Omega.{arith}
use lib.Dec.{ltb}
use lib.ListN.{length}
use Rattle.buffer.specs.Pick.{pick}
use Rattle.buffer.specs.Walk.{Step, item, unreadable, ended, onward, walk_for, walk}
use Rattle.buffer.proofs.Walks.{Advances}
use Rattle.protobuf.specs.Each.{Each}

module _ {A : Type 0} where
  -- what holds of both holds of the one that is picked
  pub either : (P : A → Type 0) (t : Bool) (a b : A) → P a → P b → P (pick t a b)
  either P true a b p q = p
  either P false a b p q = q

  pub each_all : (P : A → Type 0) → ((a : A) → P a) → (l : List A) → Each P l
  each_all P h [] = tt
  each_all P h (a ∷ l) = (h a, each_all P h l)

  pub each-so : (P Q : A → Type 0) → ((a : A) → P a → Q a) → (l : List A) → Each P l → Each Q l
  each-so P Q h [] p = tt
  each-so P Q h (a ∷ l) p = (h a p.0, each-so P Q h l p.1)

  pub each_both : (P Q R : A → Type 0) → ((a : A) → P a → Q a → R a) → (l : List A) → Each P l → Each Q l → Each R l
  each_both P Q R h [] p q = tt
  each_both P Q R h (a ∷ l) p q = (h a p.0 q.0, each_both P Q R h l p.1 q.1)

  pub each_append : (P : A → Type 0) (l m : List A) → Each P l → Each P m → Each P (l ++ m)
  each_append P [] m p q = q
  each_append P (a ∷ l) m p q = (p.0, each_append P l m p.1 q)

  pub each_over : {B : Type 0} (P : B → Type 0) (g : A → B) (l : List A) → Each (λ (a : A). P (g a)) l → Each P (map g l)
  each_over P g [] p = tt
  each_over P g (a ∷ l) p = (p.0, each_over P g l p.1)

  pub each_map : {B : Type 0} (P : B → Type 0) (g : A → B) → ((a : A) → P (g a)) → (l : List A) → Each P (map g l)
  each_map P g h l = each_over P g l (each_all (λ (a : A). P (g a)) h l)

  -- what holds of each item that a step gives, from a position on, holds of each of the walk from there
  module _ (step : List ℕ → ℕ → Step A) (adv : Advances step) (P : A → Type 0) (s : List ℕ) (from : ℕ)
      (h : (at : ℕ) (a : A) (next : ℕ) → from ≤ at → step s at ≡ item a next → P a) where
    each-walked-for : (fuel at : ℕ) → from ≤ at → Each P (walk_for step fuel s at).items
    unfolding walk_for
    each-walked-for zero at k = tt
    each-walked-for (suc fuel) at k = go (ltb at (length s)) (step s at) refl (each-walked-for fuel)
      where
        go : (t : Bool) (r : Step A) → step s at ≡ r → ((next : ℕ) → from ≤ next → Each P (walk_for step fuel s next).items)
            → Each P (pick t (onward (walk_for step fuel s) r) (ended true)).items
        go true (item a next) e ih = (h at a next k e, ih next (let z = adv s at a next e in omega arith))
        go true unreadable e ih = tt
        go false r e ih = tt

    pub each-walked : Each P (walk step s from).items
    unfolding walk
    each-walked = each-walked-for (suc (length s)) from (omega arith)
