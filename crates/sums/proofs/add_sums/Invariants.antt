-- What the loop of `sums::add_sums` keeps. Assumes nothing.
use Rattle.sums.proofs.Made.{RaisedTo}
use Rattle.sums.proofs.add_sums.Given as goal

abbrev pub invariant-loop-q : goal.invariant-loop-q
invariant-loop-q l = RaisedTo l.initial.run l.rec l.fuel l.q l.run
