-- What the loops of `joining::add_up` keep. Assumes nothing.
use Prim.Native.Nat.{◌+◌}
use Rattle.joining.proofs.Sums.{AddedUp}
use Rattle.joining.proofs.add_up.Given as goal

abbrev pub invariant-loop-fuel : goal.invariant-loop-fuel
invariant-loop-fuel l = AddedUp l.fn.run l.other l.fuel 0 0 (record l.fn.run { count = l.fn.run.count + l.other.count; km = l.km-items })

abbrev pub invariant-loop-j : goal.invariant-loop-j
invariant-loop-j l = AddedUp l.fn.run l.other 3 l.j 0 l.run

abbrev pub invariant-loop-k : goal.invariant-loop-k
invariant-loop-k l = AddedUp l.fn.run l.other 3 60 l.k l.run
