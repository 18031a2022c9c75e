-- What the loop of `area_runs::fill` keeps. Assumes nothing.
use Rattle.std.proofs.Common.{◌≡◌, ℕ, length}
use Rattle.units.proofs.Tab.{Filled}
use Rattle.area_runs.proofs.fill.Given as goal

abbrev pub invariant-loop-i : goal.invariant-loop-i
invariant-loop-i g l = (f : ℕ → ℕ) → ((i x : ℕ) → goal.F-post g l.number i x → x ≡ f i) → Filled f (length l.fn.part) l.part l.i
