-- What the loop of `harness_lines::each_line` keeps. Assumes nothing.
use Rattle.std.proofs.Common.{◌-◌, true, take, Ok}
use Rattle.std.specs.Fn.{CalledAt}
use Rattle.std.specs.List.{FoldsTo}
use Rattle.harness_lines.specs.Lines.{from_lines}
use Rattle.harness_lines.proofs.each_line.Given as goal

abbrev pub invariant-loop-line : goal.invariant-loop-line
invariant-loop-line g l =
    goal.F-IsAlwaysCallable g l.f
    × ((last : _) → FoldsTo (λ p x q. CalledAt g.F.FnMut p x (Ok tt) q) l.f (take (100000 - l._line) (from_lines true l.rest)) last → FoldsTo (λ p x q. CalledAt g.F.FnMut p x (Ok tt) q) l.fn.f (take 100000 (from_lines true l.fn.text)) last)
