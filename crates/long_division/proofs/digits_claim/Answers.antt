-- `long_division::digits_claim` does nothing: what it ensures is the theorem. Assumes nothing.
use Rattle.long_division.proofs.Least.{whole}
use Rattle.long_division.proofs.digits_claim.Goals as goal

pub returns : goal.returns
returns c = whole
