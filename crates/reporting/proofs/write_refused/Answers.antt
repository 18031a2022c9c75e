-- `reporting::write_refused` meets its contract. Assumes nothing.
use mathlib.Core.Path.{sym}
use native.Mathlib.Omega.{arith}
use Rattle.units.specs.Refusals.{refusal_number}
use Rattle.report_lines.proofs.Stores.{front}
use Rattle.reporting.specs.Reporting.{refused_line}
use Rattle.reporting.proofs.Texts.{no_room, room, refused_wrote, refused_length}
use Rattle.reporting.proofs.write_refused.Goals as goal

pub returns-then-buffer-lt17 : goal.returns-then-buffer-lt17
returns-then-buffer-lt17 c =
    let number = refusal_number c.args.bad.reason in
    let n = refused_length number c.args.bad.line in
    let short = no_room (refused_line number c.args.bad.line) c.args.buffer.now (omega (arith, c.if-buffer-lt17.true, n)) in
    record { answer = short.0; bytes = short.1 }

pub returns : goal.returns
returns c =
    let a = c.args in
    let number = refusal_number a.bad.reason in
    let n = refused_length number a.bad.line in
    let h = c.if-buffer-lt17.false in
    let wrote = refused_wrote number a.bad.line a.buffer.now _ _ _ h c.copy_from_slice.ensures.after (rw c.refusal_number.ensures at c.write_number.ensures) c.write_number-2.ensures in
    let full = room (refused_line number a.bad.line) a.buffer.now 17 _ (omega (arith, h, n)) (sym n) (front wrote h) in
    record { answer = full.0; bytes = full.1 }
