-- What the inner functions of the reader promise.
-- Assumes nothing.
use Rattle.std.specs.Prelude.{ℕ, ◌≡◌, false, List, [], ◌∷◌, get_or, ℤ, pos, Option, None, option_map}
use Rattle.fields.specs.Field.{blank, first_digit, scan, said}

-- the rest of bytes behind their spaces: they say the same, and no space stands first
pub record Spaces (bytes rest : List ℕ) : Type 0 where
  pub skipped : scan blank rest ≡ scan blank bytes
  pub ink : get_or rest 0 0 ≡ 32 → ⊥

-- what a field without sign says from its first digit on
unfoldable pub begun : List ℕ → Option ℤ
begun [] = None
begun (b ∷ bs) = said (scan (first_digit false b) bs)

-- what the answer of the digits' reader stands for
abbrev pub digits_said : Option ℕ → Option ℤ
digits_said n = option_map pos n
