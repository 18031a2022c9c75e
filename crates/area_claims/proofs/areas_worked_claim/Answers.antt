-- `area_claims::areas_worked_claim` does nothing: what it ensures is the worked list. Assumes nothing.
use Rattle.area_claims.proofs.Worked.{worked}
use Rattle.area_claims.proofs.areas_worked_claim.Goals as goal

pub returns : goal.returns
returns c = worked
