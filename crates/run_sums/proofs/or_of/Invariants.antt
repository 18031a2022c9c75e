-- What the loop of `run_sums::or_of` keeps. Assumes nothing.
use Rattle.run_sums.proofs.Together.{Some_within}
use Rattle.run_sums.proofs.or_of.Given as goal

abbrev pub invariant-loop-i : goal.invariant-loop-i
invariant-loop-i g l = Some_within (goal.F-post g l.amount) l.i l.grams l.rest
