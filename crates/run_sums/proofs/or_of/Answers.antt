-- `run_sums::or_of` meets its contract. Assumes nothing.
use Rattle.std.proofs.Common.{arith}
use Rattle.run_sums.proofs.Together.{or_more}
use Rattle.run_sums.proofs.or_of.Goals as goal

pub loop-i-preserved : goal.loop-i-preserved
loop-i-preserved g c = or_more (goal.F-post g c.args.amount) _ _ _ _ c.loop-i.invariant c.amount-a.ensures

pub returns : goal.returns
returns g c = λ i h. c.loop-i.invariant i (omega arith)
