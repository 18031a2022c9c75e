-- `factors::curves_at` meets its contract. Assumes nothing.
use mathlib.Core.Path.{refl}
use native.Mathlib.Nat.{add-zero}
use Rattle.units.specs.Lists.{tab}
use Rattle.factors.proofs.curves_at.Goals as goal

pub returns : goal.returns
unfolding tab
returns c = rw add-zero refl
