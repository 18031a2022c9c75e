-- `accuracy::numbers_claim` does nothing: what it ensures is the theorem. Assumes nothing.
use Rattle.accuracy.proofs.Numbers.{numbers}
use Rattle.accuracy.proofs.numbers_claim.Goals as goal

pub returns : goal.returns
returns c = numbers
