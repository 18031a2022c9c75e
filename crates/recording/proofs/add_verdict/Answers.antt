-- `recording::add_verdict` meets its contract. Assumes nothing.
use Rattle.units.specs.Refusals.{answer_number, refusal_number}
use Rattle.recording.proofs.Runs.{add_passed, add_full, add_good}
use Rattle.recording.proofs.add_verdict.Goals as goal

pub returns-in_err-record_verdict : goal.returns-in_err-record_verdict
returns-in_err-record_verdict c = add_passed _ _ _ c.record_verdict.ensures _ _ c.from_residual.ensures.1 c.in_err-record_verdict.was

pub returns-then-count-ge5000 : goal.returns-then-count-ge5000
unfolding answer_number refusal_number
returns-then-count-ge5000 c = add_full _ _ _ c.record_verdict.ensures _ c.in_ok-record_verdict.was c.if-count-ge5000.true

pub returns : goal.returns
unfolding answer_number
returns c = add_good _ _ _ c.record_verdict.ensures _ c.in_ok-record_verdict.was c.if-count-ge5000.false
