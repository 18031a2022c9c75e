-- What opening writes to the areas.
-- Assumes nothing.
use Rattle.inventory.specs.declared.Run.{Run}
use Rattle.areas.specs.Areas.{Areas}

-- sixteen times one run, and no common use
abbrev pub same_runs : Run → Areas
same_runs run = record { runs = λ i. run; common = 0 }
