-- `fuel::co2` meets its contract. Assumes nothing.
use mathlib.Core.Path.{◌∙◌}
use Prim.Native.Nat.{◌+◌, ◌*◌}
use native.Mathlib.Omega.{arith}
use Rattle.fuel.specs.FromFuel.{co2_of, co2_grams}
use Rattle.fuel.proofs.Contents.{by_numbers}
use Rattle.fuel.proofs.co2.Goals as goal

pub returns : goal.returns
unfolding co2_of co2_grams
returns c = let h = c.args.hydrogen in c.grams.ensures ∙ by_numbers _ _ (44011000 + 0 * h) (44011000) (12011000 + 1008 * h) (12011000 + 1008 * h) (omega arith) (omega arith)
