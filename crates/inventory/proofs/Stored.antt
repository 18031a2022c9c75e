-- The totals that a run stores. Assumes nothing.
use mathlib.Core.Path.{◌≡◌, refl, ap}
use mathlib.Core.Bool.{true}
use Prim.Native.Nat.{ℕ, ◌+◌, ◌*◌, ◌/◌, ◌%◌, ◌<◌}
use native.Mathlib.Omega.{arith}
use lib.ListN.{get_or}
use Rattle.units.proofs.Tab.{tab_at}
use Rattle.inventory.specs.declared.Run.{Run}
use Rattle.inventory.specs.Order.{grams_in, rest_in, sum_at, place, exact_total, total_grams_in, total_rest_in, total_ok}
use Rattle.inventory.specs.Adding.{total_made, total_grams_made, total_rest_made, with_totals}
use Rattle.inventory.proofs.Order.{amount_good, amount_below, amount_is}
use Rattle.inventory.proofs.Amounts.{value, rest_small, amount_grams, amount_rest}

-- the total k from the four sums at k × 4
pub exact_at : (run : Run) (k j : ℕ) → j ≡ k * 4
    → grams_in run j * 1000000000 + rest_in run j + (grams_in run (j + 1) * 1000000000 + rest_in run (j + 1))
    + (grams_in run (j + 2) * 1000000000 + rest_in run (j + 2)) + (grams_in run (j + 3) * 1000000000 + rest_in run (j + 3))
    ≡ exact_total run (k / 5) (k % 5)
unfolding exact_total sum_at
exact_at run k j e =
    let a : place (k / 5) (k % 5) 0 ≡ j = omega arith in
    let b : place (k / 5) (k % 5) 1 ≡ j + 1 = omega arith in
    let c : place (k / 5) (k % 5) 2 ≡ j + 2 = omega arith in
    let d : place (k / 5) (k % 5) 3 ≡ j + 3 = omega arith in
    rw (a, b, c, d)

module _ (run : Run) where
  made_grams : (k : ℕ) → k < 15 → total_grams_in (with_totals run) k ≡ (total_made run k).grams.0
  unfolding with_totals
  made_grams k h = ap (λ g. g.0) (tab_at (record { 0 = 0 }) (total_grams_made run) 15 k h)

  made_rest : (k : ℕ) → k < 15 → total_rest_in (with_totals run) k ≡ (total_made run k).rest
  unfolding with_totals
  made_rest k h = tab_at 0 (total_rest_made run) 15 k h

  made_exact : (fuel quantity : ℕ) → exact_total (with_totals run) fuel quantity ≡ exact_total run fuel quantity
  unfolding exact_total sum_at with_totals
  made_exact fuel quantity = refl

  -- the totals of the sums are in order, whatever the sums are
  pub total_kept : (k : ℕ) → k < 15 → total_ok (with_totals run) k ≡ true
  unfolding total_made
  total_kept k h =
      rw (made_grams k h, made_rest k h, made_exact (k / 5) (k % 5)) (amount_good _ _ _ (rest_small _) (value _))

  -- a total in order is that of the sums
  module _ (k : ℕ) (ok : total_ok run k ≡ true) where
    pub stored_grams : get_or run.total_grams k (record { 0 = 0 }) ≡ total_grams_made run k
    unfolding total_made
    stored_grams = amount_grams _ (get_or run.total_grams k (record { 0 = 0 })) _ (amount_is _ _ _ ok) (amount_below _ _ _ ok)

    pub stored_rest : total_rest_in run k ≡ total_rest_made run k
    unfolding total_made
    stored_rest = amount_rest _ (get_or run.total_grams k (record { 0 = 0 })) _ (amount_is _ _ _ ok) (amount_below _ _ _ ok)
