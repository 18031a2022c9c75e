-- `listing::width_claim` does nothing: what it ensures is the claim. Assumes nothing.
use Rattle.listing.proofs.Widths.{widths}
use Rattle.listing.proofs.width_claim.Goals as goal

pub returns : goal.returns
returns c = widths
