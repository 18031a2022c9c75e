-- `accuracy::history_claim` does nothing: what it ensures is the theorem. Assumes nothing.
use Rattle.accuracy.proofs.Whole.{history}
use Rattle.accuracy.proofs.history_claim.Goals as goal

pub returns : goal.returns
returns c = history
