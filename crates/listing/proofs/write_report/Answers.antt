-- `listing::write_report` meets its contract. Assumes nothing.
use mathlib.Core.Path.{sym, ap, ◌∙◌}
use mathlib.Core.List.{◌++◌}
use lib.ListN.{drop}
use Rattle.inventory.proofs.Order.{run_limits, total_limits}
use Rattle.listing.proofs.Report.{refused_order, refused_short, report_written}
use Rattle.listing.proofs.write_report.Goals as goal

pub returns-then-not-in_order : goal.returns-then-not-in_order
returns-then-not-in_order c =
    let q = refused_order c.args.run.now c.args.buffer.now (sym c.in_order.ensures ∙ c.if-not-in_order.true) in
    record { answer = q.0; bytes = q.1 }

pub figures_of-f-requires : goal.figures_of-f-requires
figures_of-f-requires c = let o = sym c.in_order.ensures ∙ c.if-not-in_order.false in (run_limits _ o, total_limits _ o)

pub returns-then-buffer-n : goal.returns-then-buffer-n
returns-then-buffer-n c =
    let q =
    refused_short c.args.run.now c.args.buffer.now (sym c.in_order.ensures ∙ c.if-not-in_order.false) _ c.figures_of-f.ensures _
    c.report_length-n.ensures c.if-buffer-n.true
    in
    record { answer = q.0; bytes = q.1 }

pub returns : goal.returns
returns c =
    let q =
    report_written c.args.run.now c.args.buffer.now (sym c.in_order.ensures ∙ c.if-not-in_order.false) _ c.figures_of-f.ensures _
    c.report_length-n.ensures _ c.if-buffer-n.false (ap (λ t. t ++ drop c.report_length-n.result c.args.buffer.now) c.write_lines.ensures)
    in
    record { answer = q.0; bytes = q.1 }
