-- `harness_answers::print_report` meets its contract. Assumes nothing.
use Rattle.harness_answers.proofs.Reports.{dots_within}
use Rattle.harness_answers.proofs.print_report.Goals as goal

pub returns-then-size-le1600 : goal.returns-then-size-le1600
returns-then-size-le1600 g c = rw (dots_within c.args.run.now c.args.size c.if-size-le1600.true) c.print_report_in.ensures
