-- What the loop of `harness_answers::print_run` keeps. Assumes nothing.
use Rattle.std.specs.Io.KnownBytes.{Appends}
use Rattle.units.specs.Lists.{tab}
use Rattle.harness_prints.specs.Prints.{numbers_text}
use Rattle.harness_runs.specs.Runs.{field_at}
use Rattle.harness_answers.proofs.print_run.Given as goal

abbrev pub invariant-loop-i : goal.invariant-loop-i
invariant-loop-i g l = Appends (g.W.Write.contents l.initial.out) (g.W.Write.contents l.out) (numbers_text (tab (field_at l.run) l.i))
