-- The map's rows and figures (SPECIFICATION, "Map").
-- Assumes nothing.
use Rattle.std.specs.Prelude.{ℕ, ◌-◌, Bool, not, cond, ◌&&◌, List, [], ◌∷◌, map, eqb, Float, Option, Some, None, Result, Ok, Err}
use Rattle.units.specs.Grounds.{first_fit}
use Rattle.units.specs.declared.Refusal.{Refusal}
use Rattle.units.specs.Refusals.{refusal_number}
use Rattle.inventory.specs.declared.Run.{Run}
use Rattle.inventory.specs.declared.Kind.{Kind}
use Rattle.inventory.specs.declared.Kind.TheVariants.{Urban, Rural, Highway, Cold}
use Rattle.inventory.specs.Printed.{kind_place, printed_kind, total_grounds}
use Rattle.map.specs.declared.Row.{Row}
use Rattle.map.specs.Floats.{float_of}

-- the four printed kinds of a fuel and a quantity: urban, rural, highway, cold; both count from 0 here
unfoldable pub row_grams : Run → ℕ → ℕ → List ℕ
row_grams run fuel quantity =
    printed_kind run fuel quantity 0 ∷ printed_kind run fuel quantity 1 ∷ printed_kind run fuel quantity 2 ∷ printed_kind run fuel quantity 3 ∷ []

-- an answer: its number, 0 where it is given, and its floats, none where it is refused
pub record RowGiven : Type 0 where
  pub number : ℕ
  pub floats : List Float

-- the number and the floats of each case of a row
unfoldable pub row_answer : Result Row Refusal → RowGiven
row_answer (Ok row) = record { number = 0; floats = row.urban ∷ row.rural ∷ row.highway ∷ row.cold ∷ [] }
row_answer (Err r) = record { number = refusal_number r; floats = [] }

-- 16, then 11, as for a total; fuel and quantity count from 1 here
unfoldable pub row_number : Run → ℕ → ℕ → ℕ
row_number run fuel quantity = first_fit (total_grounds run fuel quantity)

unfoldable pub row_of : Run → ℕ → ℕ → RowGiven
row_of run fuel quantity =
    record {
      number = row_number run fuel quantity;
      floats = cond (eqb (row_number run fuel quantity) 0) (map float_of (row_grams run (fuel - 1) (quantity - 1))) [];
    }

-- the grams that the floats of an answer are
unfoldable pub row_whole : Run → ℕ → ℕ → List ℕ
row_whole run fuel quantity = cond (eqb (row_number run fuel quantity) 0) (row_grams run (fuel - 1) (quantity - 1)) []

-- the field of a row for a kind
abbrev pub field_of : Row → Kind → Float
field_of row Urban = row.urban
field_of row Rural = row.rural
field_of row Highway = row.highway
field_of row Cold = row.cold

-- PM of fuels 1 and 3 is not given
unfoldable pub not_given : ℕ → ℕ → Bool
not_given fuel quantity = eqb quantity 4 && not (eqb fuel 2)

-- a figure: its number, whether it is given, and its float, none where it is not given or refused
pub record FigureGiven : Type 0 where
  pub number : ℕ
  pub given : ℕ
  pub floats : List Float

-- the number, the mark and the float of each case of a figure, which is a float of grams or, as None, the mark "not given"
unfoldable pub figure_answer : Result (Option Float) Refusal → FigureGiven
figure_answer (Ok (Some x)) = record { number = 0; given = 1; floats = x ∷ [] }
figure_answer (Ok None) = record { number = 0; given = 0; floats = [] }
figure_answer (Err r) = record { number = refusal_number r; given = 0; floats = [] }

-- the figure is the row's field of that fuel, quantity and kind
unfoldable pub figure_of : Run → ℕ → ℕ → Kind → FigureGiven
figure_of run fuel quantity kind =
    cond (eqb (row_number run fuel quantity) 0)
    (cond (not_given fuel quantity) (record { number = 0; given = 0; floats = [] })
    (record { number = 0; given = 1; floats = float_of (printed_kind run (fuel - 1) (quantity - 1) (kind_place kind)) ∷ [] }))
    (record { number = row_number run fuel quantity; given = 0; floats = [] })

-- the grams that its float is
unfoldable pub figure_whole : Run → ℕ → ℕ → Kind → List ℕ
figure_whole run fuel quantity kind =
    cond (eqb (row_number run fuel quantity) 0 && not (not_given fuel quantity)) (printed_kind run (fuel - 1) (quantity - 1) (kind_place kind) ∷ []) []
