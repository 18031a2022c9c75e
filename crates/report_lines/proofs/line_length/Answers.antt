-- `report_lines::line_length` meets its contract. Assumes nothing.
use mathlib.Core.Path.{sym, ap}
use lib.ListN.{length}
use Rattle.report_lines.proofs.Line.{left_out, length_printed}
use Rattle.report_lines.proofs.line_length.Goals as goal

pub returns-then-row-eq0 : goal.returns-then-row-eq0
returns-then-row-eq0 c = λ k. sym (ap length (left_out k c.args.row c.if-row-eq0.true))

pub returns-else-row-eq0 : goal.returns-else-row-eq0
returns-else-row-eq0 c = λ k. sym (length_printed k c.args.row c.if-row-eq0.false)
