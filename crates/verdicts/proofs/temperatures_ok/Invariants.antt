-- What the loop of `verdicts::temperatures_ok` keeps. Assumes nothing.
use mathlib.Core.Path.{◌≡◌}
use mathlib.Core.Bool.{true}
use Rattle.units.specs.Lists.{all_below}
use Rattle.inventory.specs.Records.{month_ok}
use Rattle.verdicts.proofs.temperatures_ok.Given as goal

abbrev pub invariant-loop-t : goal.invariant-loop-t
invariant-loop-t l = all_below (month_ok l.head) l.t-index ≡ true
