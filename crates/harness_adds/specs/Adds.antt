-- A record added so many times.
-- Assumes nothing.
use Rattle.std.specs.Prelude.{ℕ, zero, suc, List}
use Rattle.inventory.specs.declared.Run.{Run}
use Rattle.inventory.specs.declared.Record.{Record}
use Rattle.inventory.specs.Adding.{add_run, add_number}
use Rattle.harness_lines.specs.Lines.{number_in}
use Rattle.harness_records.specs.Records.{record_in}

-- the run after so many adds of one record
unfoldable pub add_times : ℕ → Run → Record → Run
add_times zero run rec = run
add_times (suc n) run rec = add_run (add_times n run rec) rec

-- the number of the last of so many adds, 0 where there is none
unfoldable pub last_number : ℕ → Run → Record → ℕ
last_number zero run rec = 0
last_number (suc n) run rec = add_number (add_times n run rec) rec

-- the run after the adds that a line asks for: so many of its record
unfoldable pub added_run : Run → List ℕ → Run
added_run run line = add_times (number_in line 1) run (record_in line)

-- the number of the last of them
unfoldable pub added_number : Run → List ℕ → ℕ
added_number run line = last_number (number_in line 1) run (record_in line)
