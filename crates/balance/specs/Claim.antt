-- What SPECIFICATION, "Balance", says of the digits of every balance, on any run, as one claim.
-- Assumes nothing.
use Rattle.std.specs.Prelude.{ℕ, ◌*◌, ◌-◌, ◌≤◌, ◌<◌, ◌≡◌}
use Rattle.inventory.specs.declared.Run.{Run}
use Rattle.balance.specs.Balance.{printed_fuel, balance_of}

pub record BalanceClaim : Type 0 where
  -- one that is taken has 6 to 12
  pub digits_least : (run : Run) (fuel quantity s : ℕ) → (balance_of run fuel quantity s).number ≡ 0 → 6 ≤ (balance_of run fuel quantity s).digits
  pub digits_most : (run : Run) (fuel quantity s : ℕ) → (balance_of run fuel quantity s).digits ≤ 12
  -- with fewer than twelve nothing was rounded: k is S × 10^12 / F itself
  pub exact_ratio : (run : Run) (fuel quantity s : ℕ) → (balance_of run fuel quantity s).number ≡ 0 → (balance_of run fuel quantity s).digits < 12
      → (balance_of run fuel quantity s).k * printed_fuel run (fuel - 1) ≡ s * 1000000000000
  -- one that is refused has no k, no digits and no grams
  pub refused_empty : (run : Run) (fuel quantity s : ℕ) → ((balance_of run fuel quantity s).number ≡ 0 → ⊥)
      → ((balance_of run fuel quantity s).k ≡ 0) × (((balance_of run fuel quantity s).digits ≡ 0) × ((balance_of run fuel quantity s).grams ≡ 0))
