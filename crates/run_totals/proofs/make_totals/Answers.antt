-- `run_totals::make_totals` meets its contract. Assumes nothing.
use mathlib.Core.Path.{refl}
use Prim.Native.Nat.{◌+◌, ◌*◌}
use native.Mathlib.Omega.{arith}
use Rattle.run_totals.proofs.Totals.{sums_kept, total_made_lem, made_more, all_made}
use Rattle.run_totals.proofs.make_totals.Goals as goal

pub loop-k-preserved : goal.loop-k-preserved
loop-k-preserved c =
    let old = c.args.run.now in
    let from = c.args.from in
    let i = c.loop-k.invariant in
    let k = c.loop-k.k in
    let s = sums_kept old from i in
    let e = total_made_lem old k (k * 4) _ refl
    (rw (c.sum.ensures, c.sum-in-loop-k.ensures, c.sum-in-loop-k-2.ensures, c.sum-in-loop-k-3.ensures, s (k * 4), s (k * 4 + 1), s (k * 4 + 2), s (k * 4 + 3)) at c.total_of-total.ensures) in
    rw c.set_total.ensures (made_more old from i (omega arith) (omega arith) _ e)

pub returns : goal.returns
returns c = all_made c.args.run.now c.args.from c.requires.from_le_to.2 (omega arith) c.loop-k.invariant
