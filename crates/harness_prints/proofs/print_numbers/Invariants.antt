-- What the loop of `harness_prints::print_numbers` keeps. Assumes nothing.
use Rattle.std.proofs.Common.{take}
use Rattle.std.specs.Io.KnownBytes.{Appends}
use Rattle.harness_prints.specs.Prints.{numbers_text}
use Rattle.harness_prints.proofs.print_numbers.Given as goal

abbrev pub invariant-loop-n : goal.invariant-loop-n
invariant-loop-n g l = Appends (g.W.Write.contents l.initial.out) (g.W.Write.contents l.out) (numbers_text (take l.n-index l.numbers))
