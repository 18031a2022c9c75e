-- The answer of a call that gives a run, as it crosses to C: a number and the run (SPECIFICATION, "C interface").
-- Assumes nothing.
use Rattle.std.specs.Prelude.{ℕ}
use Rattle.inventory.specs.declared.Run.{Run}
use Rattle.capi_answers.specs.declared.RunAnswer.{RunAnswer}

abbrev pub run_answer : ℕ → Run → RunAnswer
run_answer number run = record { number = number; run = run }
