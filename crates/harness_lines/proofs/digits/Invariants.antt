-- What the loops of `harness_lines::digits` keep. Assumes nothing.
use Rattle.std.proofs.Common.{◌≡◌, drop}
use Rattle.harness_lines.specs.Lines.{digits_of}
use Rattle.harness_lines.proofs.digits.Given as goal

abbrev pub invariant-loop-c : goal.invariant-loop-c
invariant-loop-c l = digits_of l.n (drop l.c-index l.word) ≡ digits_of 0 l.word
