-- `sums::add_sums` meets its contract. Assumes nothing.
use mathlib.Core.Path.{◌≡◌}
use Prim.Native.Nat.{◌+◌, ◌*◌}
use native.Mathlib.Omega.{arith}
use Rattle.inventory.specs.Records.{vehicle_km}
use Rattle.kilometres.proofs.Made.{fuel_most}
use Rattle.sums.specs.Parts.{of_sums}
use Rattle.sums.proofs.Slots.{rate_small, hot_made, cold_made}
use Rattle.sums.proofs.Made.{raised_none, raised_more, amount_above, x_kept, all_raised}
use Rattle.sums.proofs.add_sums.Goals as goal

pub loop-q-init : goal.loop-q-init
loop-q-init c = raised_none _ _ _ c.shaped.ensures.grams c.shaped.ensures.rests

pub with_cold-s3-requires-clause-k_bound : goal.with_cold-s3-requires-clause-k_bound
unfolding vehicle_km
with_cold-s3-requires-clause-k_bound c =
    let old = c.args.run.now in
    let rec = c.args.rec in
    let x = x_kept old rec _ c.loop-q.invariant in (
      c.requires.record_limits.distance,
      rate_small rec _ c.factors_of-f.ensures c.loop-q.q c.loop-q-test.true (of_sums old.x old.grams old.rests) _ c.fuel_of-fuel.ensures c.requires.record_limits c.requires.run_limits _ (rw x at c.cold_rate-c.ensures),
    )

pub loop-q-preserved : goal.loop-q-preserved
unfolding vehicle_km
loop-q-preserved c =
    let i = c.loop-q.invariant in
    let q = c.loop-q.q in
    let old = c.args.run.now in
    let rec = c.args.rec in
    let fuel = c.fuel_of-fuel.result in
    let b = fuel * 20 + q * 4 in
    let hf = fuel_most rec _ c.fuel_of-fuel.ensures in
    let above = amount_above old rec fuel i in
    let hot = hot_made rec _ c.factors_of-f.ensures q c.loop-q-test.true old fuel c.fuel_of-fuel.ensures in
    let cold = cold_made rec _ c.factors_of-f.ensures q c.loop-q-test.true old fuel c.fuel_of-fuel.ensures in
    let v0 = hot 0 (q * 3) b _ (omega arith) (omega arith) (omega arith) (rw (c.sum.ensures, above b (omega arith)) at c.with_hot-s0.ensures) in
    let v1 = hot 1 (q * 3 + 1) (b + 1) _ (omega arith) (omega arith) (omega arith) (rw (c.sum-in-loop-q.ensures, above (b + 1) (omega arith)) at c.with_hot-s1.ensures) in
    let v2 = hot 2 (q * 3 + 2) (b + 2) _ (omega arith) (omega arith) (omega arith) (rw (c.sum-in-loop-q-2.ensures, above (b + 2) (omega arith)) at c.with_hot-s2.ensures) in
    let v3 = cold (b + 3) _ _ (omega arith) (rw (x_kept old rec fuel i) at c.cold_rate-c.ensures) (rw (c.sum-in-loop-q-3.ensures, above (b + 3) (omega arith)) at c.with_cold-s3.ensures) in
    rw (c.set_sum-in-loop-q-3.ensures, c.set_sum-in-loop-q-2.ensures, c.set_sum-in-loop-q.ensures, c.set_sum.ensures)
    (raised_more old rec fuel i b (omega arith) (omega arith) _ _ _ _ v0 v1 v2 v3)

pub returns : goal.returns
returns c =
    let e : c.loop-q.q ≡ 5 = omega (arith, c.loop-q-test.false) in
    let f = c.fuel_of-fuel.ensures in
    all_raised c.args.run.now c.args.rec _ f (fuel_most c.args.rec _ f) c.requires.run_limits (rw e at c.loop-q.invariant)
