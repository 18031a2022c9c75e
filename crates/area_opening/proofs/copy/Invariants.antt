-- What the loop of `area_opening::copy` keeps. Assumes nothing.
use Rattle.std.specs.Prelude.{get_or, length}
use Rattle.units.proofs.Tab.{Filled}
use Rattle.area_opening.proofs.copy.Given as goal

abbrev pub invariant-loop-i : goal.invariant-loop-i
invariant-loop-i l = Filled (λ k. get_or l.one k 0) (length l.one) l.area l.i
