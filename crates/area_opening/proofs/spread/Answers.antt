-- `area_opening::spread` meets its contract. Assumes nothing.
use Rattle.std.proofs.Common.{◌∙◌, arith}
use Rattle.area_opening.proofs.Opening.{spread_none, spread_more, spread_done}
use Rattle.area_opening.proofs.spread.Goals as goal

pub loop-i-init : goal.loop-i-init
loop-i-init c = spread_none _ _ c.requires

pub loop-i-preserved : goal.loop-i-preserved
loop-i-preserved c = spread_more _ _ c.loop-i.i _ _ _ c.loop-i-test.true (omega arith) c.loop-i.invariant (c.copy.ensures ∙ c.put_run.ensures)

pub returns : goal.returns
returns c = spread_done _ _ c.loop-i.i _ c.loop-i.invariant (omega arith) (omega arith)
