-- `worked::worked_claim` does nothing: what it ensures is the theorem. Assumes nothing.
use Rattle.worked.proofs.Worked.{worked}
use Rattle.worked.proofs.worked_claim.Goals as goal

pub returns : goal.returns
returns c = worked
