-- `recording::zeros` meets its contract. Assumes nothing.
use mathlib.Core.Path.{refl}
use Rattle.units.specs.Lists.{tab}
use Rattle.inventory.specs.Opening.{zero_run, empty_run}
use Rattle.recording.proofs.zeros.Goals as goal

pub returns : goal.returns
unfolding zero_run empty_run tab
returns c = refl
