-- `joining::join` meets its contract. Assumes nothing.
use mathlib.Core.Path.{refl, ◌∙◌}
use Rattle.units.proofs.Refusals.{taken_number}
use Rattle.units.proofs.Passed.{passed_positive}
use Rattle.inventory.proofs.Order.{run_limits, total_limits}
use Rattle.joins.proofs.Laws.{taken, run_kept, run_joined}
use Rattle.joining.proofs.join.Goals as goal

pub returns-in_err-join_verdict-clause-run : goal.returns-in_err-join_verdict-clause-run
returns-in_err-join_verdict-clause-run c = run_kept _ _ _ refl (passed_positive _ _ c.in_err-join_verdict.was _ c.join_verdict.ensures)

pub add_up-requires : goal.add_up-requires
add_up-requires c =
    let t = taken _ _ (taken_number _ _ _ c.in_ok-join_verdict.was c.join_verdict.ensures) in
    record {
      run_limits = (run_limits _ t.first, run_limits _ t.second);
      total_limits = (total_limits _ t.first, total_limits _ t.second);
    }

pub returns-clause-run : goal.returns-clause-run
returns-clause-run c = c.add_up.ensures ∙ run_joined _ _ (taken_number _ _ _ c.in_ok-join_verdict.was c.join_verdict.ensures)
