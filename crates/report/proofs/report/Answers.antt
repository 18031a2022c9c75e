use Rattle.std.proofs.Common.{rules}
use Rattle.reporting.specs.Reporting.{sheet_text}
use Rattle.report.specs.Prints.{Prints}
use Rattle.report.proofs.Texts.{read_front, unread, number_read}
use Rattle.report.proofs.report.Goals as goal

pub returns-in_err-n : goal.returns-in_err-n
returns-in_err-n g c =
    unread (g.R.Read.remaining c.args.reader.now) _ _ (λ bytes. sheet_text (Rattle.std.specs.Prelude.take 65537 bytes)) c.read_input.result c.map_err.result _ _ c.map_err.ensures.cases c.in_err-n.was c.from_residual.ensures.1 (search rules)

pub returns : goal.returns
returns g c =
    let was = number_read c.read_input.result c.map_err.result _ c.map_err.ensures.cases c.in_ok-n.was in
    let within = rw was at c.read_input.ensures.within in
    let bytes = rw was at c.read_input.ensures.bytes in
    let end = rw was at c.read_input.ensures.end in
    read_front _ _ 65537 c.read_input.new.input c.in_ok-n.n
    (λ bytes. Prints (g.W.Write.contents c.args.writer.now) (g.W.Write.contents c.write_report.new.writer) (sheet_text bytes) c.write_report.result)
    (search rules) within bytes end c.write_report.ensures
