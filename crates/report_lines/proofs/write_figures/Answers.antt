-- `report_lines::write_figures` meets its contract. Assumes nothing.
use native.Mathlib.Omega.{arith}
use mathlib.Core.Path.{◌∙◌}
use Rattle.report_lines.proofs.Stores.{whole}
use Rattle.report_lines.proofs.Line.{line}
use Rattle.report_lines.proofs.write_figures.Goals as goal

pub returns : goal.returns
returns c =
    let a = c.args in
    whole
    (line a.fuel a.quantity a.row a.line.now _ _ _ _ _ _ _ c.requires.quantity_bound (omega (arith, c.requires.whole)) c.write_number.ensures
    (c.copy_from_slice.ensures.after ∙ c.name_of-name.ensures) c.write_number-2.ensures c.write_number-3.ensures c.write_number-4.ensures
    c.write_number-5.ensures c.write_number-6.ensures) c.requires.whole
