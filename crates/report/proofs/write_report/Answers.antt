use Rattle.std.proofs.Common.{subst}
use Rattle.report.specs.Prints.{Prints}
use Rattle.report.proofs.Texts.{text_at_front, printed}
use Rattle.report.proofs.write_report.Goals as goal

pub returns : goal.returns
returns g c =
    let text = c.report_input-n.ensures in
    subst (λ t. Prints (g.W.Write.contents c.args.writer.now) (g.W.Write.contents c.write_text.new.writer) t c.map_err.result) (text_at_front _ _ _ _ text.length text.bytes)
    (printed _ _ _ c.write_text.result c.map_err.result c.map_err.ensures.cases c.write_text.ensures.whole c.write_text.ensures.part)
