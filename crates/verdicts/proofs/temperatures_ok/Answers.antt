-- `verdicts::temperatures_ok` meets its contract. Assumes nothing.
use Rattle.std.proofs.Common.{rules}
use mathlib.Core.Path.{refl, sym, ◌∙◌}
use native.Mathlib.Omega.{arith}
use Rattle.units.specs.Lists.{all_below}
use Rattle.units.proofs.Tests.{more, fails}
use Rattle.verdicts.proofs.Temperatures.{month_read}
use Rattle.verdicts.proofs.temperatures_ok.Goals as goal

pub loop-t-init : goal.loop-t-init
unfolding all_below
loop-t-init c = refl

pub returns-then-not-temperature_ok : goal.returns-then-not-temperature_ok
returns-then-not-temperature_ok c =
    sym (fails _ 12 _ (omega arith) (sym (month_read c.args.head.now c.loop-t.t-index _ c.temperature_ok.ensures (search rules)) ∙ c.if-not-temperature_ok.true))

pub loop-t-preserved : goal.loop-t-preserved
loop-t-preserved c = more _ _ c.loop-t.invariant (sym (month_read c.args.head.now c.loop-t.t-index _ c.temperature_ok.ensures (search rules)) ∙ c.if-not-temperature_ok.false)
