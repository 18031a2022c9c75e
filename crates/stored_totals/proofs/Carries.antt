-- The test of a total against its four kinds. Assumes nothing.
use mathlib.Core.Path.{◌≡◌, refl, ap, sym}
use mathlib.Core.Bool.{Bool, true, false}
use Prim.Native.Nat.{ℕ, ◌+◌, ◌*◌, ◌≤◌, ◌<◌}
use native.Mathlib.Omega.{arith}
use lib.Dec.{eqb}
use borrow.Author.Tests.{eqb-true, eqb-false}
use Rattle.units.specs.Lists.{all_below}
use Rattle.inventory.specs.declared.Run.{Run}
use Rattle.inventory.specs.Order.{in_billionths, is_amount, sum_ok, total_ok}
use Rattle.inventory.specs.Amounts.{sum_amount, total_amount}
use Rattle.inventory.specs.Limits.{AmountLimits}
use Rattle.inventory.proofs.Order.{rest_passed, grams_passed, amount_good, amount_bad}
use Rattle.inventory.proofs.Stored.{exact_at}

-- a sum whose test passed
pub sum_passed : (run : Run) → run.count ≤ 5000 → all_below (sum_ok run) 60 ≡ true → (j : ℕ) → j < 60 → AmountLimits (sum_amount run j)
sum_passed run c s j h = record { grams = omega (arith, grams_passed run s c j h); rest = rest_passed run s j h }

-- the test of the total k by its four kinds
pub kinds_tell : (run : Run) (k : ℕ)
    → is_amount (in_billionths (sum_amount run (k * 4)) + in_billionths (sum_amount run (k * 4 + 1)) + in_billionths (sum_amount run (k * 4 + 2)) + in_billionths (sum_amount run (k * 4 + 3)))
    (total_amount run k).grams.0 (total_amount run k).rest
    ≡ total_ok run k
kinds_tell run k = ap (λ n. is_amount n (total_amount run k).grams.0 (total_amount run k).rest) (exact_at run k (k * 4) refl)

-- where the rest is below its limit, a test that decides the billionths decides the amount
pub amount_by : (n g r x y : ℕ) → r < 1000000000 → (x ≡ y → g * 1000000000 + r ≡ n) → (g * 1000000000 + r ≡ n → x ≡ y) → eqb x y ≡ is_amount n g r
amount_by n g r x y h there back = by (eqb x y) refl
  where
    by : (t : Bool) → eqb x y ≡ t → t ≡ is_amount n g r
    by true e = sym (amount_good n g r h (there (eqb-true x y e)))
    by false e = sym (amount_bad n g r (λ m z. eqb-false x y e (back z)))
