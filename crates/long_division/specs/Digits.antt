-- The digits worked in a long division (SPECIFICATION, "Balance"): S over F, then a digit for each of twelve noughts.
-- Assumes nothing.
use Rattle.std.specs.Prelude.{ℕ, zero, suc, ◌*◌, ◌/◌, ◌%◌, ◌^◌, ◌≤◌, ◌<◌, Bool, cond, eqb}
use Rattle.units.specs.Rounding.{half_up}
use Rattle.long_division.specs.declared.Division.{Division}
use Rattle.long_division.specs.declared.Ratio.{Ratio}

-- S × 10^n is a multiple of F
abbrev pub multiple_at : ℕ → ℕ → ℕ → Bool
multiple_at s f n = eqb (s * 10 ^ n % f) 0

-- the least number from 0 to n that passes, or n if there is none
unfoldable pub least_to : (ℕ → Bool) → ℕ → ℕ
least_to passes zero = 0
least_to passes (suc n) = cond (passes (least_to passes n)) (least_to passes n) (suc n)

-- 'digits worked': the least n from 0 to 12 with S × 10^n a multiple of F, or 12 if there is none
unfoldable pub digits_worked : ℕ → ℕ → ℕ
digits_worked s f = least_to (multiple_at s f) 12

-- where the division ends: quotient and remainder of S × 10^digits over F
abbrev pub division_of : ℕ → ℕ → Division
division_of s f =
    record {
      quotient = s * 10 ^ digits_worked s f / f;
      remainder = s * 10 ^ digits_worked s f % f;
      digits = digits_worked s f;
    }

-- S × 10^12 / F half up, and the digits worked
abbrev pub ratio_of : ℕ → ℕ → Ratio
ratio_of s f = record { k = half_up (s * 1000000000000) f; digits = digits_worked s f }

-- F is at most the grams of a run, and so large beside S that no quotient of up to twelve digits is above 1,500,001
pub record SmallRatio (s f : ℕ) : Type 0 where
  pub divisor : 0 < f
  pub grams : f ≤ 20000000000000000
  pub small : 666666 * s ≤ f
