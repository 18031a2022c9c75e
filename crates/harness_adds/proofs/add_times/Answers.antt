-- `harness_adds::add_times` meets its contract. Assumes nothing.
use Rattle.std.proofs.Common.{add-one}
use Rattle.harness_adds.specs.Adds.{add_times, last_number}
use Rattle.harness_adds.proofs.add_times.Goals as goal

pub loop-i-preserved : goal.loop-i-preserved
unfolding add_times last_number
loop-i-preserved c = (rw (add-one, c.add-last.ensures.run, c.loop-i.invariant.0), rw (add-one, c.add-last.ensures.number, c.loop-i.invariant.0))
