-- The digits of a balance: 6 to 12 where it is taken, none where it is refused. Assumes nothing.
use mathlib.Core.Path.{◌≡◌, refl, sym, ◌∙◌}
use mathlib.Core.Bool.{Bool, true, false, cond}
use Prim.Native.Nat.{ℕ, ◌*◌, ◌-◌, ◌%◌, ◌^◌, ◌≤◌, ◌<◌}
use native.Mathlib.Nat.{mul-le-mul_left, mul-le-mul_right, pow-le-pow_right, mod-eq_of_lt}
use native.Mathlib.Omega.{arith}
use lib.Dec.{ltb, eqb}
use borrow.Author.Tests.{ltb-true, ltb-false, eqb-true, eqb-false, ne_eqb}
use Rattle.units.specs.Grounds.{outside}
use Rattle.units.specs.Rounding.{half_up}
use Rattle.units.proofs.Rounds.{half_up_high, half_up-least}
use Rattle.units.proofs.Tests.{inside_low, inside_high}
use Rattle.units.proofs.Grounds.{passed}
use Rattle.long_division.specs.Digits.{digits_worked}
use Rattle.long_division.proofs.Least.{worked}
use Rattle.long_division.proofs.Steps.{fill_least, nothing_rounded}
use Rattle.inventory.specs.declared.Run.{Run}
use Rattle.inventory.specs.Printed.{total_grounds}
use Rattle.balance.specs.Balance.{printed_fuel, balance_ratio, sold_grounds, balance_grounds, balance_number, balance_of}
use Rattle.balance.specs.Claim.{BalanceClaim}
use Rattle.balance.proofs.Behind.{both}

module _ (s f : ℕ) (positive : 0 < f) (inside : outside 500000 1500000 (balance_ratio s f) ≡ false) where
  -- k is at most 1,500,000, so with five noughts S is still below F
  five_below : s * 100000 < f
  unfolding balance_ratio
  five_below = by _ refl
    where
      by : (b : Bool) → ltb (s * 100000) f ≡ b → s * 100000 < f
      by true e = ltb-true (s * 100000) f e
      by false e =
          let h : f ≤ s * 100000 = ltb-false (s * 100000) f e in
          let k = half_up-least (s * 1000000000000) 10000000 f positive (omega arith) in
          absurd (omega (arith, k, inside_high 500000 1500000 (balance_ratio s f) inside))

  -- and at least 500,000, so S is not 0
  some_sold : s ≡ 0 → ⊥
  unfolding balance_ratio
  some_sold z =
      let k : 500000 ≤ half_up (s * 1000000000000) f = inside_low 500000 1500000 (balance_ratio s f) inside in
      omega (arith, z, half_up_high (s * 1000000000000) f, mul-le-mul_right f k)

  six_at_least : 6 ≤ digits_worked s f
  six_at_least = by _ refl
    where
      by : (b : Bool) → ltb (digits_worked s f) 6 ≡ b → 6 ≤ digits_worked s f
      by false e = ltb-false (digits_worked s f) 6 e
      by true e =
          let n = digits_worked s f in
          let h : n ≤ 5 = omega (arith, ltb-true n 6 e) in
          let z : s * 10 ^ n % f ≡ 0 = eqb-true (s * 10 ^ n % f) 0 ((worked s f).passes (λ x. omega arith)) in
          let m : s * 10 ^ n ≤ s * 10 ^ 5 = mul-le-mul_left s (pow-le-pow_right (omega arith) h) in
          let l : s * 10 ^ n < f = omega (arith, five_below) in
          absurd (some_sold (omega (arith, fill_least s n, sym (mod-eq_of_lt l) ∙ z)))

module _ (run : Run) (fuel quantity s : ℕ) where
  abbrev f : ℕ
  f = printed_fuel run (fuel - 1)

  most_by : (b : Bool) → cond b (digits_worked s f) 0 ≤ 12
  most_by true = (worked s f).most
  most_by false = omega arith

  digits_most : (balance_of run fuel quantity s).digits ≤ 12
  unfolding balance_of
  digits_most = most_by (eqb (balance_number run fuel quantity s) 0)

  refused_empty : ((balance_of run fuel quantity s).number ≡ 0 → ⊥)
      → ((balance_of run fuel quantity s).k ≡ 0) × (((balance_of run fuel quantity s).digits ≡ 0) × ((balance_of run fuel quantity s).grams ≡ 0))
  unfolding balance_of
  refused_empty n = rw (ne_eqb (balance_number run fuel quantity s) 0 n) (refl, (refl, refl))

  module _ (given : (balance_of run fuel quantity s).number ≡ 0) where
    -- S and F of a balance that is taken
    ranges : (0 < f) × (outside 500000 1500000 (balance_ratio s f) ≡ false)
    unfolding balance_of balance_number balance_grounds total_grounds sold_grounds
    ranges =
        let own = passed (sold_grounds s f) tt (both (total_grounds run fuel quantity) (sold_grounds s f) tt given).1 in
        let some : f ≡ 0 → ⊥ = eqb-false f 0 own.0 in
        (omega (arith, some), own.1.1.0)

    digits_least : 6 ≤ (balance_of run fuel quantity s).digits
    unfolding balance_of
    digits_least = rw given (six_at_least s f ranges.0 ranges.1)

    exact_ratio : (balance_of run fuel quantity s).digits < 12 → (balance_of run fuel quantity s).k * f ≡ s * 1000000000000
    unfolding balance_of balance_ratio
    exact_ratio = rw given (nothing_rounded s f ranges.0)

pub whole : BalanceClaim
whole = record { digits_least = digits_least; digits_most = digits_most; exact_ratio = exact_ratio; refused_empty = refused_empty }
