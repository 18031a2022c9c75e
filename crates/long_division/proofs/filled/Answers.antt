-- `long_division::filled` meets its contract. Assumes nothing.
use Rattle.std.proofs.Common.{◌-◌, ◌∙◌, arith}
use Rattle.long_division.proofs.Steps.{fill_more, fill_least}
use Rattle.long_division.proofs.filled.Goals as goal

pub overflow_mul-k : goal.overflow_mul-k
overflow_mul-k c = omega (arith, fill_least c.loop-nought.k (12 - c.loop-nought._nought), c.loop-nought.invariant, c.requires.1)

pub loop-nought-preserved : goal.loop-nought-preserved
loop-nought-preserved c = fill_more c.loop-nought.k c.loop-nought._nought (omega arith) ∙ c.loop-nought.invariant
