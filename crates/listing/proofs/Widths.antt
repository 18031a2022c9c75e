-- Width 18 cuts no printed figure of a run in order. Assumes nothing.
use native.Mathlib.Omega.{arith}
use Rattle.text.proofs.Value.{read_back}
use Rattle.inventory.proofs.Totals.{kind_most, total_most}
use Rattle.listing.specs.Claim.{WidthClaim}

pub widths : WidthClaim
widths =
    record {
      kind_said = λ run o fuel quantity kind f q k. read_back _ _ (omega (arith, kind_most run o fuel quantity kind f q k));
      total_said = λ run o fuel quantity f q. read_back _ _ (omega (arith, total_most run o fuel quantity f q));
    }
