-- `balance::balance` meets its contract. Assumes nothing.
use mathlib.Core.Path.{sym, ap, ◌∙◌}
use Prim.Native.Nat.{◌-◌}
use native.Mathlib.Omega.{arith}
use Rattle.inventory.proofs.Order.{total_limits}
use Rattle.inventory.proofs.Totals.{total_most}
use Rattle.totals.proofs.Asked.{asked_ok}
use Rattle.balance.specs.Balance.{ratio_in_range}
use Rattle.balance.proofs.Distance.{balance_near}
use Rattle.balance.proofs.Answers.{answer_unasked, answer_no_fuel, answer_sold, answer_range, answer_given, range_most}
use Rattle.balance.proofs.balance.Goals as goal

pub returns-in_err-question_verdict : goal.returns-in_err-question_verdict
returns-in_err-question_verdict c =
    let e = answer_unasked _ _ _ _ _ _ _ c.from_residual.ensures.1 c.in_err-question_verdict.was c.question_verdict.ensures in
    record { answer = e; near = rw e (balance_near _ _ _ _) }

pub overflow_sub-fuel : goal.overflow_sub-fuel
overflow_sub-fuel c = let a = asked_ok _ _ _ _ _ c.in_ok-question_verdict.was c.question_verdict.ensures in omega arith

pub total_at-f-requires : goal.total_at-f-requires
total_at-f-requires c = let a = asked_ok _ _ _ _ _ c.in_ok-question_verdict.was c.question_verdict.ensures in record { total_limits = total_limits _ a.order; fuel_bound = omega arith }

pub returns-then-f-eq0 : goal.returns-then-f-eq0
returns-then-f-eq0 c =
    let e = answer_no_fuel _ _ _ _ _ _ c.in_ok-question_verdict.was c.question_verdict.ensures (sym c.total_at-f.ensures ∙ c.if-f-eq0.true) in
    record { answer = e; near = rw e (balance_near _ _ _ _) }

pub returns-then-sold-gt999999999 : goal.returns-then-sold-gt999999999
returns-then-sold-gt999999999 c =
    let e = answer_sold _ _ _ _ _ _ c.in_ok-question_verdict.was c.question_verdict.ensures (λ z. c.if-f-eq0.false (c.total_at-f.ensures ∙ z)) c.if-sold-gt999999999.true in
    record { answer = e; near = rw e (balance_near _ _ _ _) }

pub ratio_in_range-requires : goal.ratio_in_range-requires
ratio_in_range-requires c =
    let a = asked_ok _ _ _ _ _ c.in_ok-question_verdict.was c.question_verdict.ensures in
    let m = total_most _ a.order (c.args.fuel - 1) 4 (omega arith) (omega arith) in
    let n = c.if-f-eq0.false in
    (omega arith, (omega (arith, n), omega (arith, m, c.total_at-f.ensures)))

pub returns-in_err-r : goal.returns-in_err-r
returns-in_err-r c =
    let e = answer_range _ _ _ _ _ _ c.in_ok-question_verdict.was c.question_verdict.ensures (λ z. c.if-f-eq0.false (c.total_at-f.ensures ∙ z)) (omega arith) _ _ _ _ (c.ratio_in_range.ensures ∙ ap (ratio_in_range _) c.total_at-f.ensures) c.ok_or.ensures.value c.in_err-r.was c.from_residual-in_err-r.ensures.1 in
    record { answer = e; near = rw e (balance_near _ _ _ _) }

pub overflow_sub-fuel-2 : goal.overflow_sub-fuel-2
overflow_sub-fuel-2 c = let a = asked_ok _ _ _ _ _ c.in_ok-question_verdict.was c.question_verdict.ensures in omega arith

pub overflow_sub-quantity : goal.overflow_sub-quantity
overflow_sub-quantity c = let a = asked_ok _ _ _ _ _ c.in_ok-question_verdict.was c.question_verdict.ensures in omega arith

pub total_at-t-requires : goal.total_at-t-requires
total_at-t-requires c = let a = asked_ok _ _ _ _ _ c.in_ok-question_verdict.was c.question_verdict.ensures in record { total_limits = total_limits _ a.order; fuel_bound = omega arith }

pub scaled-requires : goal.scaled-requires
scaled-requires c =
    let a = asked_ok _ _ _ _ _ c.in_ok-question_verdict.was c.question_verdict.ensures in
    let m = total_most _ a.order (c.args.fuel - 1) (c.args.quantity - 1) (omega arith) (omega arith) in
    let n = range_most _ _ _ _ _ _ c.ratio_in_range.ensures c.ok_or.ensures.value c.in_ok-r.was in
    record { grams = rw c.total_at-t.ensures m; divisor = omega arith; small = omega arith; factor = omega (arith, n) }

pub returns : goal.returns
returns c =
    let e = answer_given _ _ _ _ _ _ c.in_ok-question_verdict.was c.question_verdict.ensures (λ z. c.if-f-eq0.false (c.total_at-f.ensures ∙ z)) (omega arith) _ _ _ _ (c.ratio_in_range.ensures ∙ ap (ratio_in_range _) c.total_at-f.ensures) c.ok_or.ensures.value c.in_ok-r.was c.total_at-t.ensures c.scaled.ensures in
    record { answer = e; near = rw e (balance_near _ _ _ _) }
