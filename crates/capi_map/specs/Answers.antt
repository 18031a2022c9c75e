-- Answers as they cross to C: a number and the values, 0 for every value of a refused answer (SPECIFICATION, "C interface").
-- Assumes nothing.
use Rattle.std.specs.Prelude.{ℕ, List, Float, get_or}
use Rattle.map.specs.Floats.{float_of}
use Rattle.map.specs.Map.{RowGiven, FigureGiven}
use Rattle.capi_map.specs.declared.MapRow.{MapRow}
use Rattle.capi_map.specs.declared.MapFigure.{MapFigure}

-- a float of an answer; the float of 0 where there is none
abbrev pub float_at : List Float → ℕ → Float
float_at xs k = get_or xs k (float_of 0)

abbrev pub map_row : RowGiven → MapRow
map_row a =
    record {
      number = a.number;
      urban = float_at a.floats 0;
      rural = float_at a.floats 1;
      highway = float_at a.floats 2;
      cold = float_at a.floats 3;
    }

abbrev pub map_figure : FigureGiven → MapFigure
map_figure a = record { number = a.number; given = a.given; grams = float_at a.floats 0 }
