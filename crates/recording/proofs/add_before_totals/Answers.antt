-- `recording::add_before_totals` meets its contract. Assumes nothing.
use mathlib.Core.Path.{refl, sym, ◌∙◌}
use Rattle.units.specs.Refusals.{answer_number}
use Rattle.units.proofs.Passed.{number_passed, passed_positive}
use Rattle.units.proofs.Refusals.{taken_number}
use Rattle.inventory.proofs.Order.{run_limits}
use Rattle.inventory.proofs.Records.{record_limits}
use Rattle.inventory.proofs.Runs.{limits_before}
use Rattle.inventory.specs.Adding.{with_totals}
use Rattle.recording.proofs.Runs.{raised_number, raised_taken, raised_refused, ready}
use Rattle.recording.proofs.add_before_totals.Goals as goal

pub returns-in_err-add_verdict : goal.returns-in_err-add_verdict
returns-in_err-add_verdict c =
    let run = c.args.run.now in
    let rec = c.args.rec in
    let is = c.from_residual.ensures.1 in
    let e = c.in_err-add_verdict.was in
    let h = c.add_verdict.ensures in
    record {
      number = number_passed _ _ e _ h _ is;
      run = raised_refused run rec _ refl (passed_positive _ _ e _ h);
    }

pub raise-requires : goal.raise-requires
unfolding with_totals
raise-requires c =
    let run = c.args.run.now in
    let z = taken_number _ _ _ c.in_ok-add_verdict.was c.add_verdict.ensures in
    let t = ready (with_totals run) c.args.rec (sym (raised_number run c.args.rec c.requires) ∙ z) in
    record {
      record_limits = record_limits _ t.own;
      run_limits = (limits_before run (run_limits _ t.order), t.room);
    }

pub returns : goal.returns
unfolding answer_number
returns c =
    let z = taken_number _ _ _ c.in_ok-add_verdict.was c.add_verdict.ensures in
    record { number = sym z; run = c.raise.ensures ∙ raised_taken _ _ z }
