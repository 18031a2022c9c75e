-- A number as a field: its digits right-justified in so many bytes, with spaces before them.
-- Assumes nothing.
use Rattle.std.specs.Prelude.{ℕ, zero, suc, ◌+◌, ◌-◌, ◌*◌, ◌/◌, ◌%◌, cond, List, [], ◌∷◌, ◌++◌, eqb}

-- the last digit of a number that may have run out: a space for 0
abbrev pub glyph_of : ℕ → ℕ
glyph_of n = cond (eqb n 0) 32 (48 + n % 10)

-- w bytes: the digits of n, with spaces before them; spaces alone for 0
abbrev pub pad : ℕ → ℕ → List ℕ
pad zero n = []
pad (suc w) n = pad w (n / 10) ++ (glyph_of n ∷ [])

-- w bytes: the number n, right-justified with spaces
unfoldable pub render : ℕ → ℕ → List ℕ
render zero n = []
render (suc w) n = pad w (n / 10) ++ ((48 + n % 10) ∷ [])

-- w bytes: a minus and the digits of n, right-justified with spaces; a minus alone for 0. Where w is too small, one byte more
unfoldable pub render_minus : ℕ → ℕ → List ℕ
render_minus zero n = 45 ∷ []
render_minus (suc w) n = cond (eqb n 0) (pad w 0 ++ (45 ∷ [])) (render_minus w (n / 10) ++ ((48 + n % 10) ∷ []))

-- the number that bytes say behind the digits of a; a space counts as 0, as 32 - 48 is 0
abbrev pub digits_value : ℕ → List ℕ → ℕ
digits_value a [] = a
digits_value a (b ∷ bs) = digits_value (10 * a + (b - 48)) bs
