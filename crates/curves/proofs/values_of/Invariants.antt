-- What the loop of `curves::values_of` keeps. Assumes nothing.
use Prim.Native.Nat.{◌*◌}
use Rattle.units.proofs.Tab.{Filled}
use Rattle.curves.specs.Curves.{value_at}
use Rattle.curves.proofs.values_of.Given as goal

abbrev pub invariant-loop-q : goal.invariant-loop-q
invariant-loop-q l = Filled (value_at l.t l.speeds.urban.0 l.speeds.rural.0 l.speeds.highway.0) 15 l.f (l.q * 3)
