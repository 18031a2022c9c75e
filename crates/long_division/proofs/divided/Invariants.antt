-- What the loop of `long_division::divided` keep. Assumes nothing.
use mathlib.Core.Path.{◌≡◌}
use mathlib.Core.Bool.{false}
use Prim.Native.Nat.{ℕ, ◌+◌, ◌*◌, ◌^◌, ◌<◌}
use Rattle.long_division.specs.Digits.{multiple_at}
use Rattle.long_division.proofs.divided.Given as goal

-- no nought before n ended it
abbrev pub invariant-loop-n : goal.invariant-loop-n
invariant-loop-n l = (l.s * 10 ^ l.n ≡ l.q * l.f.0 + l.r) × ((l.r < l.f.0) × ((j : ℕ) → j < l.n → multiple_at l.s l.f.0 j ≡ false))
