-- A run without records: its sums and kilometres are 0, and it is in order under a head that opening takes. Assumes nothing.
use mathlib.Core.Path.{◌≡◌, refl, ap, subst}
use mathlib.Core.Bool.{Bool, true, false, cond}
use mathlib.Core.List.{List}
use Prim.Native.Nat.{ℕ, ◌≤◌, ◌<◌}
use native.Mathlib.Omega.{arith}
use lib.Dec.{eqb}
use Rattle.units.specs.Lists.{tab}
use Rattle.units.proofs.Tab.{tab_at}
use Rattle.classes.specs.Classes.{x_count}
use Rattle.coldstart.specs.ColdStart.{cold_x, cold_values, Climate}
use Rattle.coldstart.proofs.ColdStart.{x_most_lem}
use Rattle.inventory.specs.declared.Head.{Head}
use Rattle.inventory.specs.declared.Run.{Run}
use Rattle.inventory.specs.Limits.{XLimits}
use Rattle.inventory.specs.Order.{grams_in, rest_in, km_in, sum_at, exact_total, total_ok, in_order}
use Rattle.inventory.specs.Adding.{billionths, total_made, with_totals}
use Rattle.inventory.specs.Opening.{no_km, no_grams, no_rest, empty_run, zero_run, fresh_run, open_number, open_run}
use Rattle.inventory.proofs.Records.{climate, period_taken}
use Rattle.inventory.proofs.Order.{order_by}
use Rattle.inventory.proofs.Stored.{total_kept}

module _ (trip : ℕ) (xs : List ℕ) where
  empty_rest : (j : ℕ) → j < 60 → rest_in (empty_run trip xs) j ≡ 0
  unfolding empty_run
  empty_rest j h = tab_at 0 no_rest 60 j h

  pub empty_sum : (j : ℕ) → j < 60 → sum_at (empty_run trip xs) j ≡ 0
  unfolding sum_at empty_run
  empty_sum j h =
      let g : grams_in (empty_run trip xs) j ≡ 0 = ap (λ g. g.0) (tab_at (record { 0 = 0 }) no_grams 60 j h) in
      omega (arith, g, empty_rest j h)

  pub empty_km : (fuel : ℕ) → fuel < 3 → km_in (empty_run trip xs) fuel ≡ 0
  unfolding empty_run
  empty_km fuel h = ap (λ v. v.0) (tab_at (record { 0 = 0 }) no_km 3 fuel h)

  -- its totals are those of its sums
  pub empty_totals : with_totals (empty_run trip xs) ≡ empty_run trip xs
  unfolding with_totals empty_run tab total_made billionths exact_total sum_at
  empty_totals = refl

  empty-total : (k : ℕ) → k < 15 → total_ok (empty_run trip xs) k ≡ true
  empty-total k h = subst (λ (r : Run). total_ok r k ≡ true) empty_totals (total_kept (empty_run trip xs) k h)

  pub empty_order : 10 ≤ trip → trip ≤ 200 → XLimits xs → in_order (empty_run trip xs) ≡ true
  unfolding empty_run
  empty_order low high x =
      order_by (empty_run trip xs) low high (omega arith) x (λ j h. omega (arith, empty_rest j h)) (λ j h. omega (arith, empty_sum j h))
      (λ f h. omega (arith, empty_km f h)) empty-total

-- and so are those of the run that opening gives
pub opened_totals : (head : Head) → with_totals (open_run head) ≡ open_run head
unfolding open_run fresh_run zero_run
opened_totals head = by (eqb (open_number head) 0)
  where
    by : (b : Bool) → with_totals (cond b (fresh_run head) zero_run) ≡ cond b (fresh_run head) zero_run
    by true = empty_totals head.trip _
    by false = empty_totals 0 _

module _ (head : Head) (taken : open_number head ≡ 0) where
  pub opened_is : open_run head ≡ fresh_run head
  unfolding open_run
  opened_is = rw taken

  pub x_limits : XLimits (cold_values head.period head.trip head.temps)
  x_limits i h =
      rw (tab_at 0 (cold_x head.period head.trip head.temps) x_count i h)
      (x_most_lem head.period head.trip head.temps (climate head taken) (period_taken head taken) i h)

  pub fresh_order : in_order (fresh_run head) ≡ true
  unfolding fresh_run
  fresh_order =
      let c : Climate head.trip head.temps = climate head taken in
      empty_order head.trip (cold_values head.period head.trip head.temps) c.trip_low c.trip_high x_limits
