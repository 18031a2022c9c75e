-- What the loop of `harness_areas::add_times` keeps. Assumes nothing.
use Rattle.std.proofs.Common.{◌≡◌}
use Rattle.units.specs.Refusals.{answer_number}
use Rattle.harness_areas.specs.Adds.{add_times, last_number}
use Rattle.harness_areas.proofs.add_times.Given as goal

abbrev pub invariant-loop-i : goal.invariant-loop-i
invariant-loop-i l = (l.numbers ≡ add_times l._i l.initial.numbers l.area l.rec) × (answer_number l.last ≡ last_number l._i l.initial.numbers l.area l.rec)
