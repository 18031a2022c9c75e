-- `area_opening::copy` meets its contract. Assumes nothing.
use Rattle.std.proofs.Common.{◌∙◌, refl, arith}
use Rattle.std.specs.Prelude.{get_or}
use Rattle.units.proofs.Tab.{filled_none, filled_more, filled, tab_of}
use Rattle.area_opening.proofs.copy.Goals as goal

pub loop-i-init : goal.loop-i-init
loop-i-init c = filled_none _ _ _ c.requires

pub loop-i-preserved : goal.loop-i-preserved
loop-i-preserved c = filled_more _ c.loop-i.invariant (omega (arith, c.loop-i-test.true)) refl

pub returns : goal.returns
returns c = let one = c.args.one.now in filled c.loop-i.invariant (omega arith) (omega arith) ∙ tab_of 0 (λ k. get_or one k 0) one _ refl (λ k h. refl)
