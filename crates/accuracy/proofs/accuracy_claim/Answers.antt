-- `accuracy::accuracy_claim` does nothing: what it ensures is the theorem. Assumes nothing.
use Rattle.accuracy.proofs.Whole.{whole}
use Rattle.accuracy.proofs.accuracy_claim.Goals as goal

pub returns : goal.returns
returns c = whole
