-- The printed figures of a run as one table (SPECIFICATION, "Report").
-- Assumes nothing.
use Rattle.std.specs.Prelude.{ℕ, ◌/◌, ◌%◌, get_or}
use Rattle.units.specs.declared.Grams.{Grams}
use Rattle.units.specs.Lists.{tab}
use Rattle.units.specs.Rounding.{half_up}
use Rattle.inventory.specs.declared.Run.{Run}
use Rattle.inventory.specs.Printed.{printed_kind, printed_total}
use Rattle.figures.specs.declared.Row.{Row}
use Rattle.figures.specs.declared.Figures.{Figures}

abbrev pub grams : ℕ → Grams
grams n = record { 0 = n }

-- the four printed kinds and the printed total of a fuel and a quantity, which count from 0
unfoldable pub printed_row : Run → ℕ → ℕ → Row
printed_row run fuel quantity =
    record {
      urban = grams (printed_kind run fuel quantity 0);
      rural = grams (printed_kind run fuel quantity 1);
      highway = grams (printed_kind run fuel quantity 2);
      cold = grams (printed_kind run fuel quantity 3);
      total = grams (printed_total run fuel quantity);
    }

-- the row k = fuel × 5 + quantity
abbrev pub row_at : Run → ℕ → Row
row_at run k = printed_row run (k / 5) (k % 5)

unfoldable pub figures : Run → Figures
figures run = record { rows = tab (row_at run) 15 }

-- the row k of a table
abbrev pub row_in : Figures → ℕ → Row
row_in f k =
    get_or f.rows k (record { urban = grams 0; rural = grams 0; highway = grams 0; cold = grams 0; total = grams 0 })

-- a row from its four sums and its total, in billionths of a gram
unfoldable pub row_from : ℕ → ℕ → ℕ → ℕ → ℕ → Row
row_from a b c d t =
    record {
      urban = grams (half_up a 1000000000);
      rural = grams (half_up b 1000000000);
      highway = grams (half_up c 1000000000);
      cold = grams (half_up d 1000000000);
      total = grams (half_up t 1000000000);
    }
