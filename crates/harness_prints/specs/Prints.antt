-- What the test programs print of a line and of a float.
-- Assumes nothing.
use Rattle.std.specs.Prelude.{ℕ, ◌&&◌, cond, List, [], ◌∷◌, ◌++◌, pos, flat_map}
use Rattle.std.specs.Fmt.{decimal}
use Rattle.std.specs.Float.{Float, binary64, minus_one, two_to, float_to_unsigned}
use Rattle.std.specs.Int.{w64}
use Rattle.harness_lines.specs.Lines.{part_before}
use lib.Ieee.{lt, eq, of_int}

-- a space and a number, for each number
abbrev pub numbers_text : List ℕ → List ℕ
numbers_text numbers = flat_map (λ n. 32 ∷ decimal n) numbers

-- the line of a case as far as it goes, and ` =` behind it
abbrev pub case_text : List ℕ → List ℕ
case_text line = part_before 10 line ++ (32 ∷ 61 ∷ [])

-- the whole part of a float from 0 on below 2^64, with a point behind it where that is not all
abbrev pub whole_text : Float → ℕ → List ℕ
whole_text x n = 32 ∷ (decimal n ++ cond (eq (of_int binary64 (pos n)) x) [] (46 ∷ []))

-- a float as a whole number; a point alone for one that has no whole part in 64 bits
abbrev pub float_text : Float → List ℕ
float_text x = cond (lt minus_one x && lt x (two_to 64)) (whole_text x (float_to_unsigned w64 x)) (46 ∷ [])
