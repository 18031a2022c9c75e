-- The distance of a balanced total from printed total × sold fuel / printed fuel. Assumes nothing.
use mathlib.Core.Path.{◌≡◌}
use Prim.Native.Nat.{ℕ, ◌+◌, ◌*◌, ◌-◌, ◌≤◌, ◌<◌}
use native.Mathlib.Nat.{mul-le-mul_left}
use native.Mathlib.Omega.{arith}
use borrow.Author.Tests.{eqb-false}
use lib.Dec.{lit<}
use Rattle.units.specs.Rounding.{half_up}
use Rattle.units.specs.Fractions.{over, plus, WithinDistance}
use Rattle.units.proofs.Rounds.{half_up_high, half_up_low}
use Rattle.units.proofs.Grounds.{passed}
use Rattle.inventory.specs.declared.Run.{Run}
use Rattle.inventory.specs.Printed.{printed_total, total_grounds}
use Rattle.balance.specs.Balance.{printed_fuel, balance_ratio, balanced_total, sold_grounds, balance_grounds, balance_number, balance_of, balance_allowance, BalanceNear}
use Rattle.balance.proofs.Behind.{both}

-- two roundings: half a gram, and half a millionth of the printed total t; f is the printed fuel
pub balanced_near : (t s f : ℕ) → 0 < f → WithinDistance (balanced_total t (balance_ratio s f)) (over (t * (s * 1000000)) f) (balance_allowance t)
unfolding balanced_total balance_ratio balance_allowance plus
balanced_near t s f pos =
    let k : ℕ = half_up (s * 1000000000000) f in
    record {
      high =
          let a : f * (2 * (half_up (t * k) 1000000 * 1000000)) ≤ f * (2 * (t * k) + 1000000) = mul-le-mul_left f (half_up_high (t * k) 1000000) in
          let b : t * (2 * (k * f)) ≤ t * (2 * (s * 1000000000000) + f) = mul-le-mul_left t (half_up_high (s * 1000000000000) f) in
          omega arith;
      low =
          let a : f * (2 * (t * k)) ≤ f * (2 * (half_up (t * k) 1000000 * 1000000) + 1000000) = mul-le-mul_left f (half_up_low (t * k) 1000000 (lit< tt)) in
          let b : t * (2 * (s * 1000000000000)) ≤ t * (2 * (k * f) + f) = mul-le-mul_left t (half_up_low (s * 1000000000000) f pos) in
          omega arith;
    }

-- on any run: a balance that is not refused has printed fuel
pub balance_near : (run : Run) (fuel quantity s : ℕ)
    → BalanceNear (balance_of run fuel quantity s) (printed_total run (fuel - 1) (quantity - 1)) s (printed_fuel run (fuel - 1))
unfolding balance_of balance_number balance_grounds total_grounds sold_grounds
balance_near run fuel quantity s given =
    let f = printed_fuel run (fuel - 1) in
    let own = (both (total_grounds run fuel quantity) (sold_grounds s f) tt given).1 in
    let some : f ≡ 0 → ⊥ = eqb-false f 0 (passed (sold_grounds s f) tt own).0 in
    rw given (balanced_near (printed_total run (fuel - 1) (quantity - 1)) s f (omega (arith, some)))
