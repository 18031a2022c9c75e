-- What the loop of `long_division::filled` keeps. Assumes nothing.
use Rattle.std.proofs.Common.{◌≡◌, ◌*◌, ◌-◌, ◌^◌}
use Rattle.long_division.proofs.filled.Given as goal

abbrev pub invariant-loop-nought : goal.invariant-loop-nought
invariant-loop-nought l = l.k * 10 ^ (12 - l._nought) ≡ l.q * 10 ^ (12 - l.digits)
