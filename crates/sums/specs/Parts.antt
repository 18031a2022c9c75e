-- A run by its sums.
-- Assumes nothing.
use Rattle.std.specs.Prelude.{ℕ, List, []}
use Rattle.units.specs.declared.Grams.{Grams}
use Rattle.units.specs.Lists.{tab}
use Rattle.inventory.specs.declared.Record.{Record}
use Rattle.inventory.specs.Adding.{grams_after, rest_after}
use Rattle.inventory.specs.declared.Run.{Run}

-- a run with these values X and these sums
abbrev pub of_sums : List ℕ → List Grams → List ℕ → Run
of_sums x grams rests = record { trip = 0; x = x; count = 0; km = []; grams = grams; rests = rests; total_grams = []; total_rests = [] }

-- a run with a record in its sums
abbrev pub with_sums : Run → Record → Run
with_sums run rec = record run { grams = tab (grams_after run rec) 60; rests = tab (rest_after run rec) 60 }
