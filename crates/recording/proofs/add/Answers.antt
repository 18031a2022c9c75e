-- `recording::add` meets its contract. Assumes nothing.
use mathlib.Core.Path.{refl, sym, ◌∙◌}
use Rattle.units.specs.Refusals.{answer_number}
use Rattle.units.proofs.Passed.{number_passed, passed_positive}
use Rattle.units.proofs.Refusals.{taken_number}
use Rattle.inventory.proofs.Records.{record_limits}
use Rattle.recording.proofs.Runs.{ready, run_kept, run_added}
use Rattle.recording.proofs.add.Goals as goal

pub returns-in_err-run_verdict : goal.returns-in_err-run_verdict
returns-in_err-run_verdict c =
    let e = c.in_err-run_verdict.was in
    let h = c.run_verdict.ensures in
    record {
      number = number_passed _ _ e _ h _ c.from_residual.ensures.1;
      run = run_kept _ _ _ refl (passed_positive _ _ e _ h);
    }

pub enter-requires : goal.enter-requires
enter-requires c =
    let t = ready _ _ (taken_number _ _ _ c.in_ok-run_verdict.was c.run_verdict.ensures) in
    record { record_limits = record_limits _ t.own; run_value = (t.order, t.room) }

pub returns : goal.returns
unfolding answer_number
returns c =
    let z = taken_number _ _ _ c.in_ok-run_verdict.was c.run_verdict.ensures in
    record { number = sym z; run = c.enter.ensures ∙ run_added _ _ z }
