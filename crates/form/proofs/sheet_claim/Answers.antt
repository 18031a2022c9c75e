-- `form::sheet_claim` does nothing: what it ensures is the theorem. Assumes nothing.
use Rattle.form.proofs.Form.{whole}
use Rattle.form.proofs.sheet_claim.Goals as goal

pub returns : goal.returns
returns c = whole
