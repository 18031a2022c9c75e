-- Laws of `same_head`: what two runs of one L and one X have, and what makes them so. Assumes nothing.
use mathlib.Core.Path.{◌≡◌, refl, sym, ◌∙◌}
use mathlib.Core.Bool.{Bool, true, false}
use Prim.Native.Nat.{ℕ, ◌<◌}
use lib.Dec.{eqb}
use lib.ListN.{get_or}
use borrow.Author.Tests.{eq-eqb, ne_eqb, eqb-true}
use Rattle.units.specs.Lists.{all_below}
use Rattle.units.proofs.Tests.{all, at, and_left, and_right}
use Rattle.classes.specs.Classes.{x_count}
use Rattle.inventory.specs.declared.Run.{Run}
use Rattle.inventory.specs.Order.{same_x, same_head}

module _ (a b : Run) where
  module _ (s : same_head a b ≡ true) where
    pub trip_same : a.trip ≡ b.trip
    unfolding same_head
    trip_same = eqb-true _ _ (and_left (eqb a.trip b.trip) (all_below (same_x a b) x_count) s)

    pub x_same : (i : ℕ) → i < x_count → get_or a.x i 0 ≡ get_or b.x i 0
    unfolding same_head
    x_same i h = eqb-true _ _ (at (same_x a b) x_count (and_right (eqb a.trip b.trip) (all_below (same_x a b) x_count) s) i h)

  -- by the test of L, then by the test of all X
  pub trip_differs : (a.trip ≡ b.trip → ⊥) → same_head a b ≡ false
  unfolding same_head
  trip_differs t = rw (ne_eqb _ _ t)

  pub by_x : a.trip ≡ b.trip → same_head a b ≡ all_below (same_x a b) x_count
  unfolding same_head
  by_x t = rw (eq-eqb _ _ t)

  pub head_by : a.trip ≡ b.trip → ((i : ℕ) → i < x_count → get_or a.x i 0 ≡ get_or b.x i 0) → same_head a b ≡ true
  head_by t x = by_x t ∙ all (same_x a b) x_count (λ i h. eq-eqb _ _ (x i h))

pub head_self : (run : Run) → same_head run run ≡ true
head_self run = head_by run run refl (λ i h. refl)

pub head_back : (a b : Run) → same_head a b ≡ true → same_head b a ≡ true
head_back a b s = head_by b a (sym (trip_same a b s)) (λ i h. sym (x_same a b s i h))

pub head_on : (a b c : Run) → same_head a b ≡ true → same_head b c ≡ true → same_head a c ≡ true
head_on a b c s t = head_by a c (trip_same a b s ∙ trip_same b c t) (λ i h. x_same a b s i h ∙ x_same b c t i h)

-- two tests of which each follows from the other
both_ways : (p q : Bool) → (p ≡ true → q ≡ true) → (q ≡ true → p ≡ true) → p ≡ q
both_ways true q f g = sym (f refl)
both_ways false true f g = g refl
both_ways false false f g = refl

pub head_either : (a b : Run) → same_head a b ≡ same_head b a
head_either a b = both_ways _ _ (head_back a b) (head_back b a)
