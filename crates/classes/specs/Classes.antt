-- What a class is (SPECIFICATION, "Records and units", "Cold starts" and "The run"); a class is 1 to 7,
-- a quantity 0 CO, 1 NOX, 2 VOC, 3 PM, 4 FC.
-- Assumes nothing.
use Rattle.std.specs.Prelude.{ℕ, ◌+◌, ◌*◌, Bool, not, cond, ◌&&◌, eqb, leb}

-- the fuel of a class: 0 gasoline, 1 diesel, 2 LPG
unfoldable pub fuel_of : ℕ → ℕ
fuel_of class = cond (leb 6 class) 1 (cond (eqb class 4) 2 0)

-- class 5 has no cold part
unfoldable pub has_cold : ℕ → Bool
has_cold class = not (eqb class 5)

-- CO of class 3 (96/69) has an X of its own
unfoldable pub has_own_x : ℕ → ℕ → Bool
has_own_x class quantity = eqb class 3 && eqb quantity 0

-- the β-parameter reduction factor (bc), in hundredths: how much of the cold distance a later technology needs to heat up
unfoldable pub beta_reduction : ℕ → ℕ → ℕ
beta_reduction class quantity = cond (has_own_x class quantity) 72 100

-- the values X of a run: one for each fuel and quantity, and behind these fifteen that of CO of class 3
abbrev pub x_count : ℕ
x_count = 16

-- the place of the X of a class and a quantity among them
unfoldable pub x_place : ℕ → ℕ → ℕ
x_place class quantity = cond (has_own_x class quantity) 15 (fuel_of class * 5 + quantity)
