-- `report_lines::write_line` meets its contract. Assumes nothing.
use mathlib.Core.Path.{ap, sym, ◌∙◌}
use lib.ListN.{length}
use Rattle.report_lines.proofs.Line.{left_out, printed, length_printed, no_byte}
use Rattle.report_lines.proofs.write_line.Goals as goal

pub write_figures-requires-clause-whole : goal.write_figures-requires-clause-whole
write_figures-requires-clause-whole c = c.requires.whole ∙ length_printed c.args.k c.args.row c.if-row-ne0.true

pub returns-then-row-ne0 : goal.returns-then-row-ne0
returns-then-row-ne0 c = c.write_figures.ensures ∙ sym (printed c.args.k c.args.row c.if-row-ne0.true)

pub returns-else-row-ne0 : goal.returns-else-row-ne0
returns-else-row-ne0 c =
    let a = c.args in
    let e = left_out a.k a.row c.if-row-ne0.false in
    no_byte a.line.now (c.requires.whole ∙ ap length e) ∙ sym e
