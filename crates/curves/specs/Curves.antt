-- Curves of the second degree (SPECIFICATION, "Hot factors"): a row holds the coefficients of V², V and 1.
-- Assumes nothing.
use Rattle.std.specs.Prelude.{ℕ, ◌/◌, ◌%◌, ◌≤◌, ◌<◌, List, [], ◌∷◌, ℤ, pos, nat_abs, ◌+ℤ◌, ◌*ℤ◌, get_or, ◌≤ℤ◌}
use Rattle.units.specs.Sizes.{Within}

-- aV² + bV + c
unfoldable pub quadratic : List ℤ → ℕ → ℤ
quadratic row v = get_or row 0 (pos 0) *ℤ (pos v *ℤ pos v) +ℤ get_or row 1 (pos 0) *ℤ pos v +ℤ get_or row 2 (pos 0)

-- coefficients and a speed for which no step of a curve leaves an i64 and its value is not negative
pub record Small (a b c : ℤ) (v : ℕ) : Type 0 where
  pub first : Within 1000000 a
  pub second : Within 100000000 b
  pub third : Within 10000000000 c
  pub speed : v ≤ 1300
  pub whole : pos 0 ≤ℤ quadratic (a ∷ b ∷ c ∷ []) v

-- the coefficients of a row are small at a speed
abbrev pub SmallRow : List ℤ → ℕ → Type 0
SmallRow row v = Small (get_or row 0 (pos 0)) (get_or row 1 (pos 0)) (get_or row 2 (pos 0)) v

-- and those of each of five rows
pub record SmallRows (t : List (List ℤ)) (v : ℕ) : Type 0 where
  pub row : (q : ℕ) → q < 5 → SmallRow (get_or t q []) v

-- value i of the 15 of five rows: row i / 3, road i % 3
unfoldable pub value_at : List (List ℤ) → ℕ → ℕ → ℕ → ℕ → ℕ
value_at t urban rural highway i = nat_abs (quadratic (get_or t (i / 3) []) (get_or (urban ∷ rural ∷ highway ∷ []) (i % 3) 0))
