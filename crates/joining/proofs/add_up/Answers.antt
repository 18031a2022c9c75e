-- `joining::add_up` meets its contract. Assumes nothing.
use native.Mathlib.Omega.{arith}
use Rattle.joining.proofs.Sums.{km_more, sum_more, total_more, all_added}
use Rattle.joining.proofs.add_up.Goals as goal

pub loop-fuel-preserved : goal.loop-fuel-preserved
loop-fuel-preserved c = km_more _ _ c.loop-fuel.invariant c.loop-fuel-test.true

pub loop-j-preserved : goal.loop-j-preserved
loop-j-preserved c =
    rw c.set_sum.ensures
    (sum_more _ _ c.loop-j.invariant c.loop-j-test.true _ (rw (c.sum.ensures, c.sum-in-loop-j.ensures) at c.both-sum.ensures))

pub loop-k-preserved : goal.loop-k-preserved
loop-k-preserved c =
    let t = c.requires.total_limits in
    rw c.set_total.ensures
    (total_more _ _ c.loop-k.invariant t.0 t.1 c.loop-k-test.true _ (rw (c.total.ensures, c.total-in-loop-k.ensures) at c.both-total.ensures))

pub returns : goal.returns
returns c = all_added _ _ c.loop-k.invariant (omega arith) (omega arith) (omega arith)
