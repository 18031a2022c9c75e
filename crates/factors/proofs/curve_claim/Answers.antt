-- `factors::curve_claim` does nothing: what it ensures is the theorem. Assumes nothing.
use Rattle.factors.proofs.Claim.{curve_claim}
use Rattle.factors.proofs.curve_claim.Goals as goal

pub returns : goal.returns
returns c = curve_claim
