-- `area_claims::areas_claim` does nothing: what it ensures is the claim. Assumes nothing.
use Rattle.area_claims.proofs.Lists.{areas_claim}
use Rattle.area_claims.proofs.areas_claim.Goals as goal

pub returns : goal.returns
returns c = areas_claim
