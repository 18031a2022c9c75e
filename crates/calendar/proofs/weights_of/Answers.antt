-- `calendar::weights_of` meets its contract. Assumes nothing.
use mathlib.Core.Path.{sym, ap}
use Rattle.units.specs.Lists.{tab}
use Rattle.calendar.specs.declared.Period.{Period}
use Rattle.calendar.specs.Periods.{month_weight, period_weight}
use Rattle.calendar.proofs.weights_of.Goals as goal

pub returns-in-Year : goal.returns-in-Year
unfolding tab
returns-in-Year c =
    let e = sym c.in-Year.is in
    record {
      months = ap (λ (p : Period). tab (month_weight p) 12) e;
      whole = ap period_weight e;
    }
