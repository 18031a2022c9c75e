-- `accuracy::cold_values_claim` does nothing: what it ensures is the theorem. Assumes nothing.
use Rattle.accuracy.proofs.ColdValues.{cold_values_lem}
use Rattle.accuracy.proofs.cold_values_claim.Goals as goal

pub returns : goal.returns
returns c = cold_values_lem
