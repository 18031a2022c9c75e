-- `coldstart::share_claim` does nothing: what it ensures is the theorem. Assumes nothing.
use Rattle.coldstart.proofs.Claim.{share_claim}
use Rattle.coldstart.proofs.share_claim.Goals as goal

pub returns : goal.returns
returns c = share_claim
