-- The rules of the whole table, as one claim. Assumes nothing.
use mathlib.Core.Path.{◌≡◌, refl}
use Prim.Native.Nat.{ℕ, zero, suc, ◌<◌}
use native.Mathlib.Omega.{arith}
use lib.ListN.{get_or}
use Rattle.factors.specs.Factors.{coefficients, coefficients_of}
use Rattle.factors.specs.Claim.{times, hundredths, CurveClaim}
use Rattle.factors.proofs.Factors.{factor_most, factor_positive, factor_none, curve_kept}

percent_exact : (quantity : ℕ) → quantity < 5 → times 100 (coefficients_of 3 quantity) ≡ times (get_or hundredths quantity 0) (coefficients_of 2 quantity)
unfolding coefficients
percent_exact zero h = refl
percent_exact (suc zero) h = refl
percent_exact (suc (suc zero)) h = refl
percent_exact (suc (suc (suc zero))) h = refl
percent_exact (suc (suc (suc (suc zero)))) h = refl
percent_exact (suc (suc (suc (suc (suc q))))) h = absurd (omega arith)

pub curve_claim : CurveClaim
curve_claim =
    record {
      factor_most = factor_most;
      factor_positive = factor_positive;
      factor_none = factor_none;
      curve_kept = curve_kept;
      percent_exact = percent_exact;
    }
