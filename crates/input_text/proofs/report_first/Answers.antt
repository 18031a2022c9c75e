-- `input_text::report_first` meets its contract. Assumes nothing.
use mathlib.Core.Path.{sym}
use native.Mathlib.Omega.{arith}
use lib.Seq.{length-take-le, take_all}
use Rattle.input_text.proofs.report_first.Goals as goal

pub slice_bounds-report_sheet-end : goal.slice_bounds-report_sheet-end
slice_bounds-report_sheet-end c = let a = c.args in sym (length-take-le a.read a.input.now (omega arith))

pub returns : goal.returns
returns c =
    let a = c.args in
    let e = c.report_sheet-2.ensures in
    rw (take_all a.read a.input.now c.if-read-input.false) (record { answer = e.answer; bytes = e.bytes })
