-- What the loop of `text::write_number` keeps. Assumes nothing.
use Rattle.std.proofs.Common.{◌≡◌, ◌++◌, length, drop}
use Rattle.text.specs.Render.{pad, render}
use Rattle.text.proofs.write_number.Given as goal

abbrev pub invariant-loop-i : goal.invariant-loop-i
invariant-loop-i l = (length l.f ≡ length l.fn.f) × (pad l.i l.m ++ drop l.i l.f ≡ render (length l.fn.f) l.n)
