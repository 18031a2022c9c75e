-- Billionths of a gram as whole grams and a rest, and back. Assumes nothing.
use mathlib.Core.Path.{◌≡◌}
use Prim.Native.Nat.{ℕ, ◌+◌, ◌*◌, ◌<◌}
use native.Mathlib.Omega.{arith}
use Rattle.units.specs.declared.Grams.{Grams}
use Rattle.inventory.specs.declared.Run.{Run}
use Rattle.inventory.specs.Amounts.{sum_amount, total_amount}
use Rattle.inventory.specs.Limits.{AmountLimits, RunLimits, TotalLimits}
use Rattle.inventory.specs.Adding.{billionths}

pub value : (n : ℕ) → (billionths n).grams.0 * 1000000000 + (billionths n).rest ≡ n
unfolding billionths
value n = omega arith

pub rest_small : (n : ℕ) → (billionths n).rest < 1000000000
unfolding billionths
rest_small n = omega arith

pub grams_by : (g : Grams) (n : ℕ) → g.0 ≡ n → g ≡ record { 0 = n }
grams_by g n p = let z : ◌≡◌ {A = Grams} (record { 0 = g.0 }) (record { 0 = n }) = cc in z

-- grams and a rest below its limit are those of their value
module _ (n : ℕ) (g : Grams) (r : ℕ) (e : g.0 * 1000000000 + r ≡ n) (h : r < 1000000000) where
  pub amount_grams : g ≡ (billionths n).grams
  unfolding billionths
  amount_grams = grams_by _ _ (omega arith)

  pub amount_rest : r ≡ (billionths n).rest
  unfolding billionths
  amount_rest = omega arith

-- a sum and a total of a run in order
pub sum_limits : (run : Run) → RunLimits run → (j : ℕ) → j < 60 → AmountLimits (sum_amount run j)
sum_limits run lim j h = record { grams = omega (arith, lim.grams_most j h); rest = lim.rest_below j h }

pub total_limits : (run : Run) → TotalLimits run → (k : ℕ) → k < 15 → AmountLimits (total_amount run k)
total_limits run lim k h = record { grams = lim.grams_most k h; rest = lim.rest_below k h }
