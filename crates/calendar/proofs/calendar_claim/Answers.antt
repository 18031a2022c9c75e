-- `calendar::calendar_claim` meets its contract. Assumes nothing.
use Rattle.calendar.proofs.Claim.{calendar_claim}
use Rattle.calendar.proofs.calendar_claim.Goals as goal

pub returns : goal.returns
returns c = calendar_claim
