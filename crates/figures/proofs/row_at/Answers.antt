-- `figures::row_at` meets its contract. Assumes nothing.
use native.Mathlib.Omega.{arith}
use Rattle.inventory.proofs.Amounts.{sum_limits, total_limits}
use Rattle.figures.proofs.Rows.{row_from_lem}
use Rattle.figures.proofs.row_at.Goals as goal

pub row_from-requires : goal.row_from-requires
row_from-requires c =
    let sums = sum_limits c.args.run.now c.requires.0 in (
      rw c.sum.ensures (sums _ (omega arith)),
      rw c.sum-2.ensures (sums _ (omega arith)),
      rw c.sum-3.ensures (sums _ (omega arith)),
      rw c.sum-4.ensures (sums _ (omega arith)),
      rw c.total.ensures (total_limits c.args.run.now c.requires.1 _ (omega arith)),
    )

pub returns : goal.returns
returns c =
    rw (c.row_from.ensures, c.sum.ensures, c.sum-2.ensures, c.sum-3.ensures, c.sum-4.ensures, c.total.ensures)
    (row_from_lem c.args.run.now c.requires.1 _ (omega arith))
