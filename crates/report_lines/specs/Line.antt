-- One line of the report (SPECIFICATION, "Report").
-- Assumes nothing.
use Rattle.std.specs.Prelude.{ℕ, ◌+◌, ◌/◌, ◌%◌, cond, List, [], ◌∷◌, ◌++◌, eqb, get_or}
use Rattle.text.specs.Render.{render}
use Rattle.figures.specs.declared.Row.{Row}

-- the names of the quantities, width 4: CO, NOX, VOC, PM, FC
abbrev pub names : List (List ℕ)
names =
    (32 ∷ 32 ∷ 67 ∷ 79 ∷ [])
    ∷ (32 ∷ 78 ∷ 79 ∷ 88 ∷ [])
    ∷ (32 ∷ 86 ∷ 79 ∷ 67 ∷ [])
    ∷ (32 ∷ 32 ∷ 80 ∷ 77 ∷ [])
    ∷ (32 ∷ 32 ∷ 70 ∷ 67 ∷ [])
    ∷ []

abbrev pub name_of : ℕ → List ℕ
name_of quantity = get_or names quantity []

-- the width of a printed figure
abbrev pub figure_width : ℕ
figure_width = 18

-- a line: fuel (2), quantity name (4), urban, rural, highway, cold, total (18 each), LF; the fuel counts from 1, the quantity from 0
unfoldable pub line_of : ℕ → ℕ → Row → List ℕ
line_of fuel quantity row =
    render 2 fuel ++ name_of quantity
    ++ render figure_width row.urban.0
    ++ render figure_width row.rural.0
    ++ render figure_width row.highway.0
    ++ render figure_width row.cold.0
    ++ render figure_width row.total.0
    ++ (10 ∷ [])

-- line k = fuel × 5 + quantity, both from 0; a total of 0 is left out
unfoldable pub line_at : ℕ → Row → List ℕ
line_at k row = cond (eqb row.total.0 0) [] (line_of (k / 5 + 1) (k % 5) row)
