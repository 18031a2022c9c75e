-- `recording::open_run` meets its contract. Assumes nothing.
use mathlib.Core.Path.{sym, ◌∙◌}
use Rattle.units.specs.Refusals.{answer_number}
use Rattle.inventory.specs.Opening.{given_run}
use Rattle.inventory.proofs.Records.{climate, period_taken}
use Rattle.accuracy.proofs.Whole.{every_list}
use Rattle.recording.proofs.Runs.{open_passed, zeros_passed, none_opened, opened_ok, run_opened, fresh_made}
use Rattle.recording.proofs.open_run.Goals as goal

pub returns-in_err-head_verdict : goal.returns-in_err-head_verdict
returns-in_err-head_verdict c =
    let h = c.head_verdict.ensures in
    let is = c.from_residual.ensures.1 in
    let e = c.in_err-head_verdict.was in
    record {
      number = open_passed _ _ h _ _ is e;
      run = zeros_passed _ _ h _ _ is e;
      lists = none_opened _ _ h _ _ is e;
    }

pub cold_values-run-requires : goal.cold_values-run-requires
cold_values-run-requires c =
    let z = opened_ok _ _ c.head_verdict.ensures _ c.in_ok-head_verdict.was in
    (climate _ z, period_taken _ z)

pub returns : goal.returns
unfolding answer_number given_run
returns c =
    let z = opened_ok _ _ c.head_verdict.ensures _ c.in_ok-head_verdict.was in
    record {
      number = sym z;
      run = fresh_made _ _ _ c.zeros-run.ensures c.cold_values-run.ensures ∙ run_opened _ z;
      lists = λ y. every_list _ z;
    }
