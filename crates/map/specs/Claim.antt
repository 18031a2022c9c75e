-- What SPECIFICATION, "Map", says of a figure, as a claim.
-- Assumes nothing.
use Rattle.std.specs.Prelude.{ℕ, ◌≡◌, false, [], ◌∷◌, get_or}
use Rattle.inventory.specs.declared.Run.{Run}
use Rattle.inventory.specs.declared.Kind.{Kind}
use Rattle.inventory.specs.Printed.{kind_place}
use Rattle.map.specs.Floats.{float_of}
use Rattle.map.specs.Map.{row_number, row_of, not_given, figure_of}

pub record FigureClaim : Type 0 where
  -- the float of a figure is the row's field of its fuel, quantity and kind
  pub figure_in_row : (run : Run) (fuel quantity : ℕ) (kind : Kind) → row_number run fuel quantity ≡ 0 → not_given fuel quantity ≡ false
      → (figure_of run fuel quantity kind).floats ≡ get_or (row_of run fuel quantity).floats (kind_place kind) (float_of 0) ∷ []
