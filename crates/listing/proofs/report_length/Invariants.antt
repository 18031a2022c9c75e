-- What the loop of `listing::report_length` keeps. Assumes nothing.
use Prim.Native.Nat.{◌+◌, ◌*◌, ◌-◌, ◌≤◌}
use mathlib.Core.Path.{◌≡◌}
use lib.ListN.{length}
use Rattle.listing.specs.Report.{lines_from, lines_of}
use Rattle.listing.proofs.report_length.Given as goal

abbrev pub invariant-loop-row : goal.invariant-loop-row
invariant-loop-row l = (l.n ≤ 97 * l.row-index) × (l.n + length (lines_from l.f (15 - l.row-index) l.row-index) ≡ length (lines_of l.f))
