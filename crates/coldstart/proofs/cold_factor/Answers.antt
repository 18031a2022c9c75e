-- `coldstart::cold_factor` meets its contract. Assumes nothing.
use native.Mathlib.Omega.{arith}
use Rattle.units.specs.Rounding.{half_up}
use Rattle.coldstart.specs.ColdStart.{cold_factor}
use Rattle.coldstart.proofs.cold_factor.Goals as goal

pub returns : goal.returns
unfolding cold_factor half_up
returns c = omega arith
