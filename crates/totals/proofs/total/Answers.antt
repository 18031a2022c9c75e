-- `totals::total` meets its contract. Assumes nothing.
use native.Mathlib.Omega.{arith}
use Rattle.inventory.specs.Printed.{total_of}
use Rattle.inventory.proofs.Order.{total_limits}
use Rattle.inventory.proofs.Totals.{answer_given}
use Rattle.totals.proofs.Asked.{asked_ok, answer_passed}
use Rattle.totals.proofs.total.Goals as goal

pub returns-in_err-question_verdict : goal.returns-in_err-question_verdict
unfolding total_of
returns-in_err-question_verdict c = answer_passed _ _ _ _ _ c.from_residual.ensures.1 c.in_err-question_verdict.was c.question_verdict.ensures

pub overflow_sub-fuel : goal.overflow_sub-fuel
overflow_sub-fuel c = let a = asked_ok _ _ _ _ _ c.in_ok-question_verdict.was c.question_verdict.ensures in omega arith

pub overflow_sub-quantity : goal.overflow_sub-quantity
overflow_sub-quantity c = let a = asked_ok _ _ _ _ _ c.in_ok-question_verdict.was c.question_verdict.ensures in omega arith

pub total_at-requires : goal.total_at-requires
total_at-requires c =
    let a = asked_ok _ _ _ _ _ c.in_ok-question_verdict.was c.question_verdict.ensures in
    record { total_limits = total_limits _ a.order; fuel_bound = omega arith }

pub returns : goal.returns
unfolding total_of
returns c = answer_given _ _ _ _ _ c.in_ok-question_verdict.was c.question_verdict.ensures c.total_at.ensures
