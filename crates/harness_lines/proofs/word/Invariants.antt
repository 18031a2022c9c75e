-- What the loops of `harness_lines::word` keep. Assumes nothing.
use Rattle.std.proofs.Common.{◌≡◌}
use Rattle.harness_lines.specs.Lines.{word_in}
use Rattle.harness_lines.proofs.word.Given as goal

abbrev pub invariant-loop-i : goal.invariant-loop-i
invariant-loop-i l = l.rest ≡ word_in l._i l.line
