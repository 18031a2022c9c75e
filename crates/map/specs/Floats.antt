-- 64-bit floats that are exactly whole grams, in the kit's own meaning of a float.
-- Assumes nothing.
use Rattle.std.specs.Prelude.{ℕ, ◌≡◌, false, List, [], ◌∷◌, pos, Float}
use Rattle.std.specs.Float.{binary64}
use Rattle.std.specs.Float.Ieee.{of_int}
use Rattle.std.specs.Float.Ieee.Exact.{HasValue}

-- the float of n grams
unfoldable pub float_of : ℕ → Float
float_of n = of_int binary64 (pos n)

-- x is the float of n, and its exact value is n: finite, with no sign, n / 1 in size
pub record Exactly (n : ℕ) (x : Float) : Type 0 where
  pub same : x ≡ float_of n
  pub value : HasValue x false n 1

-- the floats are exactly these numbers of grams, one for each
abbrev pub AllExact : List ℕ → List Float → Type 0
AllExact [] [] = Unit
AllExact [] (x ∷ xs) = ⊥
AllExact (n ∷ ns) [] = ⊥
AllExact (n ∷ ns) (x ∷ xs) = Exactly n x × AllExact ns xs
