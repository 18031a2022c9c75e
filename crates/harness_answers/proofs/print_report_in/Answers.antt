-- `harness_answers::print_report_in` meets its contract. Assumes nothing.
use Rattle.std.proofs.Common.{rules, ◌∷◌, []}
use Rattle.std.proofs.lemmas.Result.{on_ok_weaker}
use Rattle.std.specs.Io.KnownBytes.{Appends}
use Rattle.std.proofs.KnownBytes.{Appends-trans}
use Rattle.listing.specs.Report.{report_of}
use Rattle.harness_answers.specs.Answers.{reported_text, report_text}
use Rattle.harness_answers.proofs.Reports.{answer_reported}
use Rattle.harness_answers.proofs.print_report_in.Goals as goal

pub returns : goal.returns
unfolding report_text
returns g c =
    let r = c.write_report-answer.result in
    let first : Appends (g.W.Write.contents c.args.out.now) (g.W.Write.contents c.print_answer.new.out) (reported_text (report_of c.args.run.now c.args.buffer.now)) = rw (← c.write_report-answer.ensures.answer, ← answer_reported r) (search rules) in
    let second : Appends (g.W.Write.contents c.print_answer.new.out) (g.W.Write.contents c.write_all.new.self) (10 ∷ []) = search rules in
    on_ok_weaker c.write_all-2.result (λ third. rw (← c.write_report-answer.ensures.bytes) (Appends-trans _ _ _ _ _ (Appends-trans _ _ _ _ _ first second) third)) c.write_all-2.ensures.bytes
