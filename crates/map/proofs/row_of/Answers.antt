-- `map::row_of` meets its contract. Assumes nothing.
use native.Mathlib.Omega.{arith}
use Rattle.totals.proofs.Asked.{asked_ok}
use Rattle.map.proofs.Rows.{row_refused, row_given}
use Rattle.map.proofs.row_of.Goals as goal

pub returns-in_err-question_verdict : goal.returns-in_err-question_verdict
returns-in_err-question_verdict c =
    let q = row_refused _ _ _ _ _ _ c.from_residual.ensures.1 c.in_err-question_verdict.was c.question_verdict.ensures in
    record { answer = q.0; exact = q.1 }

pub overflow_sub-f : goal.overflow_sub-f
overflow_sub-f c = let a = asked_ok _ _ _ _ _ c.in_ok-question_verdict.was c.question_verdict.ensures in omega arith

pub overflow_sub-q : goal.overflow_sub-q
overflow_sub-q c = let a = asked_ok _ _ _ _ _ c.in_ok-question_verdict.was c.question_verdict.ensures in omega arith

pub kind_float-requires : goal.kind_float-requires
kind_float-requires c = let a = asked_ok _ _ _ _ _ c.in_ok-question_verdict.was c.question_verdict.ensures in record { order = a.order; asked = (omega arith, omega arith) }

pub kind_float-requires-2 : goal.kind_float-requires-2
kind_float-requires-2 c = let a = asked_ok _ _ _ _ _ c.in_ok-question_verdict.was c.question_verdict.ensures in record { order = a.order; asked = (omega arith, omega arith) }

pub kind_float-requires-3 : goal.kind_float-requires-3
kind_float-requires-3 c = let a = asked_ok _ _ _ _ _ c.in_ok-question_verdict.was c.question_verdict.ensures in record { order = a.order; asked = (omega arith, omega arith) }

pub kind_float-requires-4 : goal.kind_float-requires-4
kind_float-requires-4 c = let a = asked_ok _ _ _ _ _ c.in_ok-question_verdict.was c.question_verdict.ensures in record { order = a.order; asked = (omega arith, omega arith) }

pub returns : goal.returns
returns c =
    let q = row_given _ _ _ _ _ _ c.in_ok-question_verdict.was c.question_verdict.ensures c.kind_float.ensures c.kind_float-2.ensures c.kind_float-3.ensures c.kind_float-4.ensures in
    record { answer = q.0; exact = q.1 }
