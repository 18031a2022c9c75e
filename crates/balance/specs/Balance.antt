-- The balance against sold fuel (SPECIFICATION, "Balance").
-- Assumes nothing.
use Rattle.std.specs.Prelude.{ℕ, ◌*◌, ◌-◌, ◌≡◌, cond, List, [], ◌∷◌, ◌++◌, eqb, ltb, Option, Some, None, Result, Ok, Err}
use Rattle.units.specs.Grounds.{Ground, ground, first_fit, outside}
use Rattle.units.specs.Rounding.{half_up}
use Rattle.units.specs.declared.Refusal.{Refusal}
use Rattle.units.specs.Refusals.{refusal_number}
use Rattle.units.specs.Fractions.{Fraction, over, plus, WithinDistance}
use Rattle.long_division.specs.declared.Ratio.{Ratio}
use Rattle.long_division.specs.Digits.{digits_worked, ratio_of}
use Rattle.inventory.specs.declared.Run.{Run}
use Rattle.inventory.specs.Printed.{printed_total, total_grounds}
use Rattle.balance.specs.declared.BalanceFigures.{BalanceFigures}

-- F, the printed FC total of a fuel, which counts from 0 here
abbrev pub printed_fuel : Run → ℕ → ℕ
printed_fuel run fuel = printed_total run fuel 4

-- k = S × 10^12 / F, half up; S is sold fuel in tonnes
unfoldable pub balance_ratio : ℕ → ℕ → ℕ
balance_ratio s f = half_up (s * 1000000000000) f

-- k from 500,000 to 1,500,000 with the digits worked, and none for any other k: what the inner division gives
abbrev pub ratio_in_range : ℕ → ℕ → Option Ratio
ratio_in_range s f = cond (outside 500000 1500000 (balance_ratio s f)) None (Some (ratio_of s f))

-- balanced total = printed total × k / 1,000,000, half up
unfoldable pub balanced_total : ℕ → ℕ → ℕ
balanced_total t k = half_up (t * k) 1000000

-- the balance's own grounds over S and F, in their order
unfoldable pub sold_grounds : ℕ → ℕ → List Ground
sold_grounds s f = ground 12 (eqb f 0) ∷ ground 13 (ltb 999999999 s) ∷ ground 13 (outside 500000 1500000 (balance_ratio s f)) ∷ []

-- the grounds of a balance: those of a question for the total, then its own; fuel and quantity count from 1 here
unfoldable pub balance_grounds : Run → ℕ → ℕ → ℕ → List Ground
balance_grounds run fuel quantity s = total_grounds run fuel quantity ++ sold_grounds s (printed_fuel run (fuel - 1))

-- an answer: its number, 0 where it is given; k, the digits worked and the balanced total, 0 where it is refused
pub record BalanceAnswer : Type 0 where
  pub number : ℕ
  pub k : ℕ
  pub digits : ℕ
  pub grams : ℕ

-- the number and the values of each case
unfoldable pub balanced_answer : Result BalanceFigures Refusal → BalanceAnswer
balanced_answer (Ok b) = record { number = 0; k = b.k; digits = b.digits; grams = b.grams.0 }
balanced_answer (Err r) = record { number = refusal_number r; k = 0; digits = 0; grams = 0 }

unfoldable pub balance_number : Run → ℕ → ℕ → ℕ → ℕ
balance_number run fuel quantity s = first_fit (balance_grounds run fuel quantity s)

unfoldable pub balance_of : Run → ℕ → ℕ → ℕ → BalanceAnswer
balance_of run fuel quantity s =
    record {
      number = balance_number run fuel quantity s;
      k = cond (eqb (balance_number run fuel quantity s) 0) (balance_ratio s (printed_fuel run (fuel - 1))) 0;
      digits = cond (eqb (balance_number run fuel quantity s) 0) (digits_worked s (printed_fuel run (fuel - 1))) 0;
      grams =
          cond (eqb (balance_number run fuel quantity s) 0)
          (balanced_total (printed_total run (fuel - 1) (quantity - 1)) (balance_ratio s (printed_fuel run (fuel - 1)))) 0;
    }

-- half a gram plus half a millionth of the printed total
unfoldable pub balance_allowance : ℕ → Fraction
balance_allowance t = plus (over 1 2) (over t 2000000)

-- the balanced total of an answer that is not refused is near printed total × sold fuel / printed fuel; sold fuel is S × 1,000,000 g
abbrev pub BalanceNear : BalanceAnswer → ℕ → ℕ → ℕ → Type 0
BalanceNear answer t s f = answer.number ≡ 0 → WithinDistance answer.grams (over (t * (s * 1000000)) f) (balance_allowance t)
