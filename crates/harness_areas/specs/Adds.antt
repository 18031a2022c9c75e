-- A record added to an area so many times.
-- Assumes nothing.
use Rattle.std.specs.Prelude.{ℕ, zero, suc, List}
use Rattle.inventory.specs.declared.Record.{Record}
use Rattle.areas.specs.Calls.{add_area_numbers, add_area_number}
use Rattle.harness_lines.specs.Lines.{word_in, number_in}
use Rattle.harness_records.specs.Records.{record_in}

-- the numbers after so many adds of one record to an area
unfoldable pub add_times : ℕ → List ℕ → ℕ → Record → List ℕ
add_times zero numbers area rec = numbers
add_times (suc n) numbers area rec = add_area_numbers (add_times n numbers area rec) area rec

-- the number of the last of so many adds, 0 where there is none
unfoldable pub last_number : ℕ → List ℕ → ℕ → Record → ℕ
last_number zero numbers area rec = 0
last_number (suc n) numbers area rec = add_area_number (add_times n numbers area rec) area rec

-- the numbers after the adds that a line asks for: to its area, so many of the record behind it
unfoldable pub added_numbers : List ℕ → List ℕ → List ℕ
added_numbers numbers line = add_times (number_in line 2) numbers (number_in line 1) (record_in (word_in 1 line))

-- the number of the last of them
unfoldable pub added_number : List ℕ → List ℕ → ℕ
added_number numbers line = last_number (number_in line 2) numbers (number_in line 1) (record_in (word_in 1 line))
