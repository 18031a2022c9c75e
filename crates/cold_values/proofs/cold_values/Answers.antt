-- `cold_values::cold_values` meets its contract: the code's constant is the table of specs/. Assumes nothing.
use mathlib.Core.Path.{refl}
use Rattle.coldstart.specs.ColdStart.{pairs, slopes}
use Rattle.cold_values.proofs.cold_values.Goals as goal

pub values_of-requires : goal.values_of-requires
unfolding pairs slopes
values_of-requires c = (refl, c.requires.0, c.requires.1)
