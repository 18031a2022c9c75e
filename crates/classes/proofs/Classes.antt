-- Laws of the fuel of a class and of the places of X. Assumes nothing.
use mathlib.Core.Path.{◌≡◌, refl}
use Prim.Native.Nat.{ℕ, ◌+◌, ◌*◌, ◌<◌}
use mathlib.Core.Bool.{Bool, true, false, cond, ◌&&◌}
use native.Mathlib.Omega.{arith}
use lib.Dec.{eqb, leb}
use borrow.Author.Tests.{eqb-true}
use Rattle.classes.specs.Classes.{fuel_of, has_own_x, beta_reduction, x_count, x_place}

never : false ≡ true → ⊥
never e = let z : ◌≡◌ {A = ℕ} 0 1 = cc in omega arith

fuel_by : (a b : Bool) → cond a 1 (cond b 2 0) < 3
fuel_by true b = omega arith
fuel_by false true = omega arith
fuel_by false false = omega arith

pub fuel_below : (class : ℕ) → fuel_of class < 3
unfolding fuel_of
fuel_below class = fuel_by (leb 6 class) (eqb class 4)

pub fuel_3 : fuel_of 3 ≡ 0
unfolding fuel_of
fuel_3 = refl

-- ---- the places of X

below_by : (b : Bool) (n : ℕ) → n < 15 → cond b 15 n < x_count
below_by true n h = omega arith
below_by false n h = omega arith

pub x_below : (class quantity : ℕ) → quantity < 5 → x_place class quantity < x_count
unfolding x_place
x_below class quantity h = below_by (has_own_x class quantity) (fuel_of class * 5 + quantity) (omega (arith, fuel_below class))

-- only CO of class 3 has an X of its own
own_of : (a b : Bool) (class quantity : ℕ) → eqb class 3 ≡ a → eqb quantity 0 ≡ b → (a && b) ≡ true → (class ≡ 3) × (quantity ≡ 0)
own_of true true class quantity ea eb e = (eqb-true class 3 ea, eqb-true quantity 0 eb)
own_of true false class quantity ea eb e = absurd (never e)
own_of false b class quantity ea eb e = absurd (never e)

pub own : (class quantity : ℕ) → has_own_x class quantity ≡ true → (class ≡ 3) × (quantity ≡ 0)
unfolding has_own_x
own class quantity e = own_of (eqb class 3) (eqb quantity 0) class quantity refl refl e

module _ (class quantity : ℕ) (other : class ≡ 3 → quantity ≡ 0 → ⊥) where
  no_own : has_own_x class quantity ≡ false
  no_own = go (has_own_x class quantity) refl
    where
      go : (b : Bool) → has_own_x class quantity ≡ b → b ≡ false
      go true e = let p = own class quantity e in absurd (other p.0 p.1)
      go false e = refl

  pub other_place : x_place class quantity ≡ fuel_of class * 5 + quantity
  unfolding x_place
  other_place = rw no_own

  pub other_whole : beta_reduction class quantity ≡ 100
  unfolding beta_reduction
  other_whole = rw no_own
