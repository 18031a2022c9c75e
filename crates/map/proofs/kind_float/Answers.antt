-- `map::kind_float` meets its contract. Assumes nothing.
use mathlib.Core.Path.{sym}
use native.Mathlib.Omega.{arith}
use Rattle.inventory.proofs.Order.{run_limits}
use Rattle.inventory.proofs.Totals.{kind_below, kind_made}
use Rattle.map.proofs.Rows.{kind_fits}
use Rattle.map.proofs.kind_float.Goals as goal

pub overflow_add-j-2 : goal.overflow_add-j-2
overflow_add-j-2 c = let k = kind_below c.args.kind in omega (arith, c.kind_place.ensures)

pub kind_at-requires : goal.kind_at-requires
kind_at-requires c =
    let k = kind_below c.args.kind in
    record { run_limits = run_limits _ c.requires.order; j_bound = omega (arith, c.kind_place.ensures) }

pub exact_float-requires : goal.exact_float-requires
exact_float-requires c =
    kind_fits _ c.requires.order _ _ _ _ c.requires.asked.0 c.requires.asked.1 (kind_below c.args.kind) (kind_made _ _ _ _ c.args.kind _ c.kind_place.ensures c.kind_at.ensures)

pub returns : goal.returns
returns c = rw (sym (kind_made _ _ _ _ c.args.kind _ c.kind_place.ensures c.kind_at.ensures)) c.exact_float.ensures
