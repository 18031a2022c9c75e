-- `stored_totals::total_ok` meets its contract. Assumes nothing.
use Rattle.std.proofs.Common.{arith, ◌∙◌}
use Rattle.stored_totals.proofs.Carries.{sum_passed, kinds_tell}
use Rattle.stored_totals.proofs.total_ok.Goals as goal

pub is_total-requires : goal.is_total-requires
is_total-requires g c =
    let l = sum_passed (g.R.RunNumbers.run c.args.run.now) c.requires.1 c.requires.2 in
    (rw c.sum.ensures (l _ (omega arith)), rw c.sum-2.ensures (l _ (omega arith)), rw c.sum-3.ensures (l _ (omega arith)), rw c.sum-4.ensures (l _ (omega arith)))

pub returns : goal.returns
returns g c =
    c.is_total.ensures
    ∙ rw (c.sum.ensures, c.sum-2.ensures, c.sum-3.ensures, c.sum-4.ensures, c.total.ensures) (kinds_tell (g.R.RunNumbers.run c.args.run.now) c.args.k)
