-- `area_runs::fill` meets its contract. Assumes nothing.
use Rattle.std.proofs.Common.{refl, arith}
use Rattle.units.proofs.Tab.{filled_none, filled_more, filled}
use Rattle.area_runs.proofs.fill.Goals as goal

pub loop-i-init : goal.loop-i-init
loop-i-init g c = λ f k. filled_none f _ _ refl

pub loop-i-preserved : goal.loop-i-preserved
loop-i-preserved g c = λ f k. filled_more _ (c.loop-i.invariant f k) (omega (arith, c.loop-i-test.true)) (k _ _ c.number.ensures)

pub returns : goal.returns
returns g c = λ f k. filled (c.loop-i.invariant f k) (omega arith) (omega arith)
