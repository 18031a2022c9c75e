-- A temperature of a head, as the code has it. Assumes nothing.
use mathlib.Core.Path.{◌≡◌, ap, ◌∙◌}
use mathlib.Core.Bool.{Bool}
use Prim.Native.Nat.{ℕ}
use lib.IntN.{pos}
use lib.ListN.{get_or}
use mir.Syntax.{w64}
use mir.Val.{to_z, of_z}
use Rattle.coldstart.specs.ColdStart.{temperature_ok}
use Rattle.inventory.specs.declared.Head.{Head}
use Rattle.inventory.specs.Records.{month_ok}

-- what a test of the temperature read back from its bits says
pub month_read : (head : Head) (k : ℕ) (b : Bool) → b ≡ temperature_ok (to_z w64 (of_z w64 (get_or head.temps k (pos 0))))
    → to_z w64 (of_z w64 (get_or head.temps k (pos 0))) ≡ get_or head.temps k (pos 0) → b ≡ month_ok head k
month_read head k b e r = e ∙ ap temperature_ok r
