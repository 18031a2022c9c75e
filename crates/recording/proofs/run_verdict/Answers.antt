-- `recording::run_verdict` meets its contract. Assumes nothing.
use mathlib.Core.Path.{sym, ◌∙◌}
use Rattle.units.specs.Refusals.{answer_number, refusal_number}
use Rattle.recording.proofs.Runs.{add_unordered, add_ordered}
use Rattle.recording.proofs.run_verdict.Goals as goal

pub returns-then-not-in_order : goal.returns-then-not-in_order
unfolding answer_number refusal_number
returns-then-not-in_order c = add_unordered _ _ (sym c.in_order.ensures ∙ c.if-not-in_order.true)

pub returns : goal.returns
returns c = c.add_verdict.ensures ∙ add_ordered _ _ (sym c.in_order.ensures ∙ c.if-not-in_order.false)
