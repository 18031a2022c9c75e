-- `reporting::report_sheet` meets its contract. Assumes nothing.
use mathlib.Core.Path.{refl, sym, ap, ◌∙◌}
use Rattle.units.specs.Refusals.{refusal_number}
use Rattle.units.proofs.Refusals.{number_positive}
use Rattle.sheet.specs.Sheet.{Outcome}
use Rattle.reporting.proofs.Texts.{long_number, long_line, own_number, own_line, refused_text, text_by, text_report}
use Rattle.reporting.proofs.report_sheet.Goals as goal

pub returns-then-text-gt65536 : goal.returns-then-text-gt65536
unfolding refusal_number
returns-then-text-gt65536 c =
    let a = c.args in
    let h = c.if-text-gt65536.true in
    let e = c.write_refused.ensures in
    let n = sym (long_number a.text.now h) in
    let l = sym (long_line a.text.now h) in
    let w = text_by _ a.text.now a.buffer.now _ _ (refused_text a.text.now 10 1 n refl l) e.answer e.bytes in
    record {
      answer = w.0;
      number = n;
      line = l;
      bytes = w.1;
    }

pub returns-in-Ok : goal.returns-in-Ok
returns-in-Ok c =
    let a = c.args in
    let h = c.if-text-gt65536.false in
    let s = c.in-Ok.ensures in
    let e = c.write_report.ensures in
    let z = sym (ap (λ (o : Outcome). o.number) s) in
    let w = text_report a.text.now a.buffer.now _ _ _ h z (ap (λ (o : Outcome). o.run) s) e.answer e.bytes in
    record {
      answer = w.0;
      number = sym (own_number a.text.now h ∙ z);
      line = ap (λ (o : Outcome). o.line) s ∙ sym (own_line a.text.now h);
      bytes = w.1;
    }

pub returns-in-Err : goal.returns-in-Err
returns-in-Err c =
    let a = c.args in
    let h = c.if-text-gt65536.false in
    let s = c.in-Err.ensures in
    let e = c.write_refused-in-Err.ensures in
    let n = ap (λ (o : Outcome). o.number) s ∙ sym (own_number a.text.now h) in
    let l = ap (λ (o : Outcome). o.line) s ∙ sym (own_line a.text.now h) in
    let w = text_by _ a.text.now a.buffer.now _ _ (refused_text a.text.now _ _ n (number_positive _) l) e.answer e.bytes in
    record {
      answer = w.0;
      number = n;
      line = l;
      bytes = w.1;
    }
