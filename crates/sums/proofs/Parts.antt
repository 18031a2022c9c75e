-- Bounds of a run by its sums and by its kilometres. Assumes nothing.
use native.Mathlib.Omega.{arith}
use Rattle.inventory.specs.declared.Run.{Run}
use Rattle.inventory.specs.Limits.{RunLimits}
use Rattle.sums.specs.Parts.{of_sums}

module _ (run : Run) where
  pub sums_limits : RunLimits run → RunLimits (of_sums run.x run.grams run.rests)
  sums_limits lim =
      record {
        few = omega arith;
        x_most_lem = lim.x_most_lem;
        rest_below = lim.rest_below;
        grams_most = lim.grams_most;
        km_most = λ fuel h. omega arith;
      }
