-- The totals of a run's sums by their parts.
-- Assumes nothing.
use Rattle.std.specs.Prelude.{ℕ, ◌≤◌, ◌<◌, ◌≡◌, true, List, []}
use Rattle.units.specs.declared.Grams.{Grams}
use Rattle.inventory.specs.declared.Run.{Run}
use Rattle.inventory.specs.Order.{total_ok}

-- a run with these sums and these totals
abbrev pub of_amounts : List Grams → List ℕ → List Grams → List ℕ → Run
of_amounts grams rests total_grams total_rests =
    record { trip = 0; x = []; count = 0; km = []; grams = grams; rests = rests; total_grams = total_grams; total_rests = total_rests }

-- all totals but those from one place up to another, which is not among them, are in order
pub record KeptOutside (run : Run) (from to : ℕ) : Type 0 where
  pub kept : (k : ℕ) → k < 15 → (from ≤ k → k < to → ⊥) → total_ok run k ≡ true
