-- `worked_joins::worked_joins_claim` does nothing: what it ensures is the theorem. Assumes nothing.
use Rattle.worked_joins.proofs.Worked.{worked_joins}
use Rattle.worked_joins.proofs.worked_joins_claim.Goals as goal

pub returns : goal.returns
returns c = worked_joins
