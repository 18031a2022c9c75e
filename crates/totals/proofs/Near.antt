-- The printed kinds against the printed total. Assumes nothing.
use Prim.Native.Nat.{ℕ, ◌+◌}
use native.Mathlib.Omega.{arith}
use Rattle.units.specs.Rounding.{half_up}
use Rattle.inventory.specs.declared.Run.{Run}
use Rattle.inventory.specs.Order.{exact_total}
use Rattle.inventory.specs.Printed.{printed_kind, printed_total}
use Rattle.totals.specs.Kinds.{KindsNear, KindsClaim}

near : (run : Run) (fuel quantity : ℕ)
    → KindsNear (printed_kind run fuel quantity 0 + printed_kind run fuel quantity 1 + printed_kind run fuel quantity 2 + printed_kind run fuel quantity 3)
    (printed_total run fuel quantity)
unfolding printed_kind printed_total exact_total half_up
near run fuel quantity = record { high = omega arith; low = omega arith }

pub whole : KindsClaim
whole = record { kinds_near = near }
