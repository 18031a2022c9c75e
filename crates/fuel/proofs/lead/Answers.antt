-- `fuel::lead` meets its contract. Assumes nothing.
use mathlib.Core.Path.{◌∙◌}
use Prim.Native.Nat.{◌+◌, ◌*◌}
use native.Mathlib.Omega.{arith}
use Rattle.fuel.specs.FromFuel.{lead_of, lead_grams}
use Rattle.fuel.proofs.Contents.{by_numbers}
use Rattle.fuel.proofs.lead.Goals as goal

pub returns : goal.returns
unfolding lead_of lead_grams
returns c = let h = c.args.content in c.grams.ensures ∙ by_numbers _ _ (0 + 3 * h) (3 * h) (4000000 + 0 * h) (4000000) (omega arith) (omega arith)
