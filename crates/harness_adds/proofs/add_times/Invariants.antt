-- What the loop of `harness_adds::add_times` keeps. Assumes nothing.
use Rattle.std.proofs.Common.{◌≡◌}
use Rattle.units.specs.Refusals.{answer_number}
use Rattle.harness_adds.specs.Adds.{add_times, last_number}
use Rattle.harness_adds.proofs.add_times.Given as goal

abbrev pub invariant-loop-i : goal.invariant-loop-i
invariant-loop-i l = (l.run ≡ add_times l._i l.initial.run l.rec) × (answer_number l.last ≡ last_number l._i l.initial.run l.rec)
