-- What SPECIFICATION, "Hot factors", says of every factor and of class 3, as one claim.
-- Assumes nothing.
use Rattle.std.specs.Prelude.{ℕ, ◌≤◌, ◌<◌, ◌≡◌, true, false, List, [], ◌∷◌, ℤ, pos, nat_abs, ◌*ℤ◌, get_or}
use Rattle.factors.specs.Factors.{Driven, coefficients_of, curve, emission_factor, tabulated}

-- n times each coefficient
abbrev pub times : ℕ → List ℤ → List ℤ
times n [] = []
times n (z ∷ zs) = (z *ℤ pos n) ∷ times n zs

-- how many hundredths of class 2 class 3 has: CO, NOX, VOC, PM, FC
abbrev pub hundredths : List ℕ
hundredths = 70 ∷ 44 ∷ 44 ∷ 100 ∷ 100 ∷ []

pub record CurveClaim : Type 0 where
  -- a factor is at most 2,000,000,000
  pub factor_most : (class quantity road v : ℕ) → Driven class v → quantity < 5 → road < 3 → emission_factor class quantity road v ≤ 2000000000
  -- positive where a curve or figures are tabulated
  pub factor_positive : (class quantity road v : ℕ) → Driven class v → quantity < 5 → road < 3 → tabulated class quantity ≡ true → 0 < emission_factor class quantity road v
  -- and 0 elsewhere
  pub factor_none : (class quantity road v : ℕ) → Driven class v → quantity < 5 → road < 3 → tabulated class quantity ≡ false → emission_factor class quantity road v ≡ 0
  -- no curve is negative, so that nothing of it is cut
  pub curve_kept : (class quantity v : ℕ) → Driven class v → quantity < 5 → pos (nat_abs (curve class quantity v)) ≡ curve class quantity v
  -- class 3's percentages divide without a rest: 100 of a coefficient are so many of class 2's
  pub percent_exact : (quantity : ℕ) → quantity < 5 → times 100 (coefficients_of 3 quantity) ≡ times (get_or hundredths quantity 0) (coefficients_of 2 quantity)
