-- The head or the record that a line holds.
-- Assumes nothing.
use Rattle.std.specs.Prelude.{ℕ, ◌+◌, List, ℤ}
use Rattle.units.specs.Lists.{tab}
use Rattle.calendar.specs.Periods.{period_from}
use Rattle.inventory.specs.declared.Head.{Head}
use Rattle.inventory.specs.declared.Record.{Record}
use Rattle.harness_lines.specs.Lines.{number_in, signed_in}

-- the temperature of month k in a line that holds a head
abbrev pub temperature_in : List ℕ → ℕ → ℤ
temperature_in line k = signed_in line (k + 2)

-- the head of a line: the trip length, twelve temperatures, then the first and the last day, 0 and 0 without dates
unfoldable pub head_in : List ℕ → Head
head_in line =
    record { trip = number_in line 1; temps = tab (temperature_in line) 12; period = period_from (number_in line 14) (number_in line 15) }

-- the record of a line, behind the number of times
unfoldable pub record_in : List ℕ → Record
record_in line =
    record {
      class = number_in line 2;
      vehicles = number_in line 3;
      km = number_in line 4;
      shares = record { urban = number_in line 5; rural = number_in line 6; highway = number_in line 7 };
      speeds = record { urban = record { 0 = number_in line 8 }; rural = record { 0 = number_in line 9 }; highway = record { 0 = number_in line 10 } };
    }
