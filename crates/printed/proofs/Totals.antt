-- The printed total from the stored one. Assumes nothing.
use mathlib.Core.Path.{◌≡◌, refl, sym, ◌∙◌}
use Prim.Native.Nat.{ℕ, ◌+◌, ◌*◌, ◌<◌}
use Rattle.units.specs.Rounding.{half_up}
use Rattle.inventory.specs.declared.Run.{Run}
use Rattle.inventory.specs.Amounts.{total_amount}
use Rattle.inventory.specs.Limits.{TotalLimits}
use Rattle.inventory.specs.Order.{in_billionths}
use Rattle.inventory.specs.Printed.{printed_total}
use Rattle.inventory.proofs.Totals.{half_grams, total_made}

pub total_half : (run : Run) (fuel quantity : ℕ) → TotalLimits run → fuel < 3 → quantity < 5
    → half_up (in_billionths (total_amount run (fuel * 5 + quantity))) 1000000000 ≡ printed_total run fuel quantity
total_half run fuel quantity lim a b = sym (half_grams _ _) ∙ total_made run lim fuel quantity _ a b refl
