-- The printed kinds against the printed total (SPECIFICATION, "The run").
-- Assumes nothing.
use Rattle.std.specs.Prelude.{ℕ, ◌+◌, ◌≤◌}
use Rattle.inventory.specs.declared.Run.{Run}
use Rattle.inventory.specs.Printed.{printed_kind, printed_total}

-- the printed kinds together miss the printed total by up to 2 g
pub record KindsNear (kinds total : ℕ) : Type 0 where
  pub high : kinds ≤ total + 2
  pub low : total ≤ kinds + 2

-- of any run; fuel and quantity count from 0
pub record KindsClaim : Type 0 where
  pub kinds_near : (run : Run) (fuel quantity : ℕ)
      → KindsNear (printed_kind run fuel quantity 0 + printed_kind run fuel quantity 1 + printed_kind run fuel quantity 2 + printed_kind run fuel quantity 3)
      (printed_total run fuel quantity)
