-- What the loop of `lines::temps_in` keeps. Assumes nothing.
use mathlib.Core.Path.{◌≡◌}
use lib.ListN.{length, drop, replicate}
use Rattle.lines.specs.Lines.{fields, numbers_in}
use Rattle.lines.proofs.Heads.{place, fives}
use Rattle.lines.proofs.temps_in.Given as goal

abbrev pub invariant-loop-j : goal.invariant-loop-j
invariant-loop-j l = (length l.temps ≡ 12) × (place l.temps l.j (fives l.s l.j) ≡ numbers_in (fields (replicate 12 5) (drop 5 l.s)))
