-- What the loops of `cold_values::values_of` keep. Assumes nothing.
use mathlib.Core.Path.{◌≡◌}
use mathlib.Core.List.{List}
use Prim.Native.Nat.{ℕ, ◌≤◌, ◌<◌}
use lib.ListN.{get_or}
use Rattle.units.specs.Lists.{tab}
use Rattle.units.proofs.Tab.{tab_at}
use Rattle.calendar.specs.declared.Period.{Period}
use Rattle.calendar.specs.Periods.{month_weight}
use Rattle.calendar.proofs.Periods.{weight_most}
use Rattle.coldstart.proofs.ColdStart.{sums_to}
use Rattle.cold_values.proofs.values_of.Given as goal

-- what the code's month k weighs
abbrev pub weight_in : List ℕ → ℕ → ℕ
weight_in months k = get_or months k 0

pub weight_is : (period : Period) (months : List ℕ) → months ≡ tab (month_weight period) 12 → (k : ℕ) → k < 12 → weight_in months k ≡ month_weight period k
weight_is period months e k h = rw e (tab_at 0 (month_weight period) 12 k h)

pub light : (period : Period) (months : List ℕ) → months ≡ tab (month_weight period) 12 → (k : ℕ) → k < 12 → weight_in months k ≤ 31
light period months e k h = rw (weight_is period months e k h) (weight_most period k h)

abbrev pub invariant-loop-k : goal.invariant-loop-k
invariant-loop-k l = (l.k ≤ 12) × (l.sums ≡ tab (sums_to (weight_in l.months) l.l l.temps l.k) 15)
