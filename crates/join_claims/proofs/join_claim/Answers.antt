-- `join_claims::join_claim` does nothing: what it ensures is the theorem. Assumes nothing.
use Rattle.join_claims.proofs.Whole.{whole}
use Rattle.join_claims.proofs.join_claim.Goals as goal

pub returns : goal.returns
returns c = whole
