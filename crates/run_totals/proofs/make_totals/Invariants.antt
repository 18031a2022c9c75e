-- What the loop of `run_totals::make_totals` keeps. Assumes nothing.
use Rattle.run_totals.proofs.Totals.{MadeTo}
use Rattle.run_totals.proofs.make_totals.Given as goal

abbrev pub invariant-loop-k : goal.invariant-loop-k
invariant-loop-k l = MadeTo l.initial.run l.from l.k l.run
