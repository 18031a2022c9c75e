-- What SPECIFICATION, "Balance", says of the digits worked, as one claim.
-- Assumes nothing.
use Rattle.std.specs.Prelude.{ℕ, ◌*◌, ◌^◌, ◌≤◌, ◌<◌, ◌≡◌}
use Rattle.std.specs.Int.{◌∣◌}
use Rattle.long_division.specs.Digits.{digits_worked}

-- n is the least from 0 to 12 with S × 10^n a multiple of F, or 12 if there is none
pub record LeastDigits (s f n : ℕ) : Type 0 where
  pub most : n ≤ 12
  pub none_before : (m : ℕ) → m < n → f ∣ s * 10 ^ m → ⊥
  pub ends : (n ≡ 12 → ⊥) → f ∣ s * 10 ^ n

pub record DigitsClaim : Type 0 where
  -- the digits worked are that number
  pub least : (s f : ℕ) → LeastDigits s f (digits_worked s f)
  -- and no other number is
  pub only : (s f n : ℕ) → LeastDigits s f n → n ≡ digits_worked s f
  -- by computation: 6 to 12 as the least; 12 where 13 would be it, and where F is prime; 0 where S is a multiple
  pub ends_at_6 : digits_worked 1 1000000 ≡ 6
  pub ends_at_7 : digits_worked 6 5000000 ≡ 7
  pub ends_at_8 : digits_worked 1 800000 ≡ 8
  pub ends_at_9 : digits_worked 9 8000000 ≡ 9
  pub ends_at_10 : digits_worked 17 16000000 ≡ 10
  pub ends_at_11 : digits_worked 33 32000000 ≡ 11
  pub ends_at_12 : digits_worked 65 64000000 ≡ 12
  pub ends_behind_12 : digits_worked 129 128000000 ≡ 12
  pub never_ends : digits_worked 1 999983 ≡ 12
  pub multiple : digits_worked 14 7 ≡ 0
