-- `factors::curve_factors` meets its contract. Assumes nothing.
use Rattle.factors.proofs.Factors.{rows_factors, rows_small}
use Rattle.factors.proofs.curve_factors.Goals as goal

pub values_of-requires : goal.values_of-requires
values_of-requires c =
    let small = rows_small c.args.class _ c.curves_of-t.ensures in
    search (small _ c.requires.driven.0, small _ c.requires.driven.1, small _ c.requires.driven.2)

pub returns : goal.returns
returns c =
    rows_factors c.args.class _ c.curves_of-t.ensures _ _ _ _ c.requires.fact c.values_of.ensures
