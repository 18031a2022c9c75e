-- What is used of a period that opening takes: its weights. Assumes nothing.
use mathlib.Core.Path.{◌≡◌, refl}
use Prim.Native.Nat.{ℕ, ◌≤◌, ◌<◌}
use native.Mathlib.Omega.{arith}
use Rattle.units.specs.Lists.{sum_to}
use Rattle.calendar.specs.declared.Period.{Period}
use Rattle.calendar.specs.declared.Period.TheVariants as period
use Rattle.calendar.specs.Periods.{TakenPeriod, month_weight, period_weight}
use Rattle.calendar.proofs.Laws.{weights_sum, least_days, most_days, days_most}

-- the months of a period weigh together what it does
pub whole_weight : (p : Period) → TakenPeriod p → sum_to (month_weight p) 12 ≡ period_weight p
unfolding sum_to
whole_weight period.Year z = refl
whole_weight (period.Days d) z = weights_sum d z

-- at least 1 and at most 366
pub weight_positive : (p : Period) → TakenPeriod p → 0 < period_weight p
weight_positive period.Year z = omega arith
weight_positive (period.Days d) z = omega (arith, least_days d z)

pub weight_high : (p : Period) → TakenPeriod p → period_weight p ≤ 366
weight_high period.Year z = omega arith
weight_high (period.Days d) z = most_days d z

-- a month at most 31
pub weight_most : (p : Period) (k : ℕ) → k < 12 → month_weight p k ≤ 31
weight_most period.Year k h = omega arith
weight_most (period.Days d) k h = days_most d k h
