-- `input_text::text_claim` does nothing: what it ensures is the claim. Assumes nothing.
use Rattle.input_text.proofs.Bounds.{texts}
use Rattle.input_text.proofs.text_claim.Goals as goal

pub returns : goal.returns
returns c = texts
