-- What the loop of `book::factors_of` keeps. Assumes nothing.
use Rattle.units.proofs.Tab.{Filled}
use Rattle.book.proofs.Lines.{road_line}
use Rattle.book.proofs.factors_of.Given as goal

abbrev pub invariant-loop-road : goal.invariant-loop-road
invariant-loop-road l = Filled (road_line l.class l.fn.speeds.urban.0 l.fn.speeds.rural.0 l.fn.speeds.highway.0) 3 l.lines l.road
