use Rattle.std.proofs.Common.{◌≡◌, ◌+◌, ◌-◌, ◌++◌, rules, length, take, drop, sym, ap, ◌∙◌, subst}
use Rattle.std.proofs.lemmas.List.{take_rest}
use Rattle.std.specs.Io.KnownBytes.{Appends}
use Rattle.std.proofs.KnownBytes.{Appends-trans}
use lib.Seq.{take-add}
use Rattle.report.proofs.write_text.Goals as goal

pub loop-n-preserved-in-Ok : goal.loop-n-preserved-in-Ok
loop-n-preserved-in-Ok g c =
    let n = c.loop-n.n in
    let went = c.in-Ok.went in
    let text = c.args.text.now in
    let joined : take n text ++ take went (take (length text - n) (drop n text)) ≡ take (n + went) text =
    ap (λ l. take n text ++ take went l) (take_rest text n) ∙ sym (take-add n went text) in
    (search rules, subst (Appends _ _) joined (Appends-trans _ _ _ _ _ c.loop-n.invariant.1 c.in-Ok.ensures.bytes))
