-- `totals::kind_total` meets its contract. Assumes nothing.
use native.Mathlib.Omega.{arith}
use Rattle.inventory.specs.Printed.{kind_of}
use Rattle.inventory.proofs.Order.{run_limits}
use Rattle.inventory.proofs.Totals.{answer_given, kind_below, kind_made}
use Rattle.totals.proofs.Asked.{asked_ok, answer_passed}
use Rattle.totals.proofs.kind_total.Goals as goal

pub returns-in_err-question_verdict : goal.returns-in_err-question_verdict
unfolding kind_of
returns-in_err-question_verdict c = answer_passed _ _ _ _ _ c.from_residual.ensures.1 c.in_err-question_verdict.was c.question_verdict.ensures

pub overflow_sub-j : goal.overflow_sub-j
overflow_sub-j c = let a = asked_ok _ _ _ _ _ c.in_ok-question_verdict.was c.question_verdict.ensures in omega arith

pub overflow_mul-j : goal.overflow_mul-j
overflow_mul-j c = let a = asked_ok _ _ _ _ _ c.in_ok-question_verdict.was c.question_verdict.ensures in omega arith

pub overflow_sub-j-2 : goal.overflow_sub-j-2
overflow_sub-j-2 c = let a = asked_ok _ _ _ _ _ c.in_ok-question_verdict.was c.question_verdict.ensures in omega arith

pub overflow_mul-j-2 : goal.overflow_mul-j-2
overflow_mul-j-2 c = let a = asked_ok _ _ _ _ _ c.in_ok-question_verdict.was c.question_verdict.ensures in omega arith

pub overflow_add-j : goal.overflow_add-j
overflow_add-j c = let a = asked_ok _ _ _ _ _ c.in_ok-question_verdict.was c.question_verdict.ensures in omega arith

pub overflow_add-j-2 : goal.overflow_add-j-2
overflow_add-j-2 c = let a = asked_ok _ _ _ _ _ c.in_ok-question_verdict.was c.question_verdict.ensures in let k = kind_below c.args.kind in omega (arith, c.kind_place.ensures)

pub kind_at-requires : goal.kind_at-requires
kind_at-requires c =
    let a = asked_ok _ _ _ _ _ c.in_ok-question_verdict.was c.question_verdict.ensures in
    let k = kind_below c.args.kind in
    record { run_limits = run_limits _ a.order; j_bound = omega (arith, c.kind_place.ensures) }

pub returns : goal.returns
unfolding kind_of
returns c = answer_given _ _ _ _ _ c.in_ok-question_verdict.was c.question_verdict.ensures (kind_made _ _ _ _ c.args.kind _ c.kind_place.ensures c.kind_at.ensures)
