-- What the loops of `cold_values::with_month` keep. Assumes nothing.
use Prim.Native.Nat.{◌≤◌}
use Rattle.units.proofs.Between.{Between}
use Rattle.coldstart.specs.ColdStart.{with_month}
use Rattle.cold_values.proofs.with_month.Given as goal

abbrev pub invariant-loop-i : goal.invariant-loop-i
invariant-loop-i l = (l.i ≤ 15) × Between 0 (with_month l.initial.r l.b l.t) l.initial.r 15 0 l.i l.r
