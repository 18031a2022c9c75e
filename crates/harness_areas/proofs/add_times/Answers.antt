-- `harness_areas::add_times` meets its contract. Assumes nothing.
use Rattle.std.proofs.Common.{add-one}
use Rattle.harness_areas.specs.Adds.{add_times, last_number}
use Rattle.harness_areas.proofs.add_times.Goals as goal

pub loop-i-preserved : goal.loop-i-preserved
unfolding add_times last_number
loop-i-preserved c = (rw (add-one, c.add_area-last.ensures.numbers, c.loop-i.invariant.0), rw (add-one, c.add_area-last.ensures.number, c.loop-i.invariant.0))
