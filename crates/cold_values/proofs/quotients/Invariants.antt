-- What the loops of `cold_values::quotients` keep. Assumes nothing.
use mathlib.Core.Path.{◌≡◌}
use Prim.Native.Nat.{◌*◌, ◌≤◌}
use Rattle.units.proofs.Tab.{Filled}
use Rattle.classes.specs.Classes.{x_count}
use Rattle.coldstart.specs.ColdStart.{x_of_sums}
use Rattle.cold_values.proofs.quotients.Given as goal

abbrev pub invariant-loop-i : goal.invariant-loop-i
invariant-loop-i l = (l.i ≤ 15) × (l.half ≡ l.weight * 500) × Filled (x_of_sums l.weight l.fn.sums) x_count l.x l.i
