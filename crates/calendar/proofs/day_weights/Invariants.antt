-- What the loops of `calendar::day_weights` keep. Assumes nothing.
use Prim.Native.Nat.{◌*◌, ◌≤◌}
use mathlib.Core.Path.{◌≡◌}
use Rattle.units.specs.Lists.{sum_to}
use Rattle.units.proofs.Tab.{Filled}
use Rattle.calendar.specs.Periods.{days_in}
use Rattle.calendar.proofs.day_weights.Given as goal

abbrev pub invariant-loop-k : goal.invariant-loop-k
invariant-loop-k l = (l.whole ≤ 31 * l.k) × (l.whole ≡ sum_to (days_in l.d) l.k) × Filled (days_in l.d) 12 l.months l.k
