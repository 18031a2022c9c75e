-- `input_text::report_input` meets its contract. Assumes nothing.
use Rattle.std.proofs.Common.{rules}
use Rattle.input_text.proofs.Bounds.{fits}
use Rattle.input_text.proofs.report_input.Goals as goal

pub returns : goal.returns
returns c =
    let e = c.report_first.ensures in
    let w = fits _ c.args.text.now _ _ (search rules) e.answer e.bytes _ c.unwrap_or.ensures in
    record { length = w.0; most = w.1.0; bytes = w.1.1 }
