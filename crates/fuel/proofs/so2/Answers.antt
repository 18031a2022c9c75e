-- `fuel::so2` meets its contract. Assumes nothing.
use mathlib.Core.Path.{◌∙◌}
use Prim.Native.Nat.{◌+◌, ◌*◌}
use native.Mathlib.Omega.{arith}
use Rattle.fuel.specs.FromFuel.{so2_of, so2_grams}
use Rattle.fuel.proofs.Contents.{by_numbers}
use Rattle.fuel.proofs.so2.Goals as goal

pub returns : goal.returns
unfolding so2_of so2_grams
returns c = let h = c.args.sulphur in c.grams.ensures ∙ by_numbers _ _ (0 + 2 * h) (2 * h) (1000000 + 0 * h) (1000000) (omega arith) (omega arith)
