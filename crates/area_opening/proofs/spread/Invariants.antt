-- What the loop of `area_opening::spread` keeps. Assumes nothing.
use Rattle.area_opening.proofs.Opening.{Spread}
use Rattle.area_opening.proofs.spread.Given as goal

abbrev pub invariant-loop-i : goal.invariant-loop-i
invariant-loop-i l = Spread l.run l.fn.numbers l.i l.numbers
