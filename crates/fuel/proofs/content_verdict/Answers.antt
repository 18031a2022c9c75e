-- `fuel::content_verdict` meets its contract. Assumes nothing.
use Rattle.units.specs.Refusals.{answer_number, refusal_number}
use Rattle.fuel.proofs.Contents.{unasked, over, within}
use Rattle.fuel.proofs.content_verdict.Goals as goal

pub returns-in_err-question_verdict : goal.returns-in_err-question_verdict
returns-in_err-question_verdict c = unasked _ _ _ _ _ c.question_verdict.ensures _ _ c.from_residual.ensures.1 c.in_err-question_verdict.was

pub returns-then-limit-content : goal.returns-then-limit-content
unfolding answer_number refusal_number
returns-then-limit-content c = over _ _ _ _ _ c.question_verdict.ensures _ c.in_ok-question_verdict.was c.if-limit-content.true

pub returns : goal.returns
unfolding answer_number
returns c = within _ _ _ _ _ c.question_verdict.ensures _ c.in_ok-question_verdict.was c.if-limit-content.false
