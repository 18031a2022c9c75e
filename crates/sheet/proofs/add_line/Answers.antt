-- `sheet::add_line` meets its contract. Assumes nothing.
use mathlib.Core.Path.{sym, ap, ◌∙◌}
use Rattle.std.specs.Result.{result_ok}
use Rattle.units.specs.Refusals.{answer_number, refusal_number}
use Rattle.units.proofs.Passed.{passed_up}
use Rattle.inventory.specs.Adding.{with_totals}
use Rattle.recording.proofs.Runs.{raised_number, raised_added, raised_order}
use Rattle.sheet.specs.Sheet.{line_number, line_run}
use Rattle.sheet.proofs.Walk.{missed}
use Rattle.sheet.proofs.add_line.Goals as goal

pub returns-in_err-rec-clause-number : goal.returns-in_err-rec-clause-number
unfolding answer_number refusal_number
returns-in_err-rec-clause-number c =
    let m = missed _ _ _ _ c.ok_or.ensures.value c.in_err-rec.was in
    ap answer_number (passed_up _ _ c.from_residual.ensures.1) ∙ ap refusal_number m.1 ∙ ap (line_number (with_totals c.args.run.now)) (sym m.0 ∙ c.record_in.ensures)

pub returns-in_err-rec-clause-run : goal.returns-in_err-rec-clause-run
returns-in_err-rec-clause-run c =
    let m = missed _ _ _ _ c.ok_or.ensures.value c.in_err-rec.was in ap (line_run (with_totals c.args.run.now)) (sym m.0 ∙ c.record_in.ensures)

pub returns-clause-number : goal.returns-clause-number
returns-clause-number c =
    let o = sym (c.ok_or.ensures.ok_part ∙ ap result_ok c.in_ok-rec.was) ∙ c.record_in.ensures in
    c.add_before_totals.ensures.number ∙ raised_number c.args.run.now c.in_ok-rec.rec c.requires ∙ ap (line_number (with_totals c.args.run.now)) o

pub returns-clause-run : goal.returns-clause-run
returns-clause-run c =
    let o = sym (c.ok_or.ensures.ok_part ∙ ap result_ok c.in_ok-rec.was) ∙ c.record_in.ensures in
    ap with_totals c.add_before_totals.ensures.run ∙ raised_added c.args.run.now c.in_ok-rec.rec c.requires ∙ ap (line_run (with_totals c.args.run.now)) o

pub returns-clause-order : goal.returns-clause-order
returns-clause-order c = rw c.add_before_totals.ensures.run (raised_order c.args.run.now c.in_ok-rec.rec c.requires)
