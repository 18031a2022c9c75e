-- The range of B and of X, for every head that opening takes. Assumes nothing.
use mathlib.Core.Path.{sym}
use native.Mathlib.Omega.{arith}
use Rattle.coldstart.specs.Claim.{share_at, ShareClaim}
use Rattle.coldstart.proofs.ColdStart.{month_whole, whole_range, wider, x_most_lem}

pub share_claim : ShareClaim
share_claim =
    record {
      share_range = λ l ts c k h. whole_range _ (share_at l ts k) (wider (month_whole l ts c k h) (omega arith));
      share_kept = λ l ts c k h. sym (month_whole l ts c k h).same;
      x_most_lem = λ period l ts c z i h. omega (arith, x_most_lem period l ts c z i h);
    }
