-- `harness_lines::each_line` meets its contract. Assumes nothing.
use Rattle.std.proofs.Common.{rules, of_calls, arith, ◌≡◌, ◌<◌, ◌-◌, length, Ok, refl}
use Rattle.std.specs.Fn.{CalledAt}
use Rattle.harness_lines.proofs.Parts.{lines_none, line_here}
use Rattle.harness_lines.proofs.each_line.Goals as goal

pub returns-then-is_empty : goal.returns-then-is_empty
returns-then-is_empty g c =
    let n : length c.loop-line.rest.now ≡ 0 = search rules in
    (c.loop-line.f, c.loop-line.invariant.1 c.loop-line.f (rw (lines_none (100000 - c.loop-line._line) c.loop-line.rest.now n) refl))

pub loop-line-preserved : goal.loop-line-preserved
loop-line-preserved g c =
    let n : 0 < length c.loop-line.rest.now = search rules in
    let called : CalledAt g.F.FnMut c.loop-line.f c.loop-line.rest.now (Ok tt) c.f.new.self = record { shown = c.loop-line.rest; shows = refl; called = rw c.in_ok-f.was at c.f.ensures } in
    (search of_calls, λ last h. c.loop-line.invariant.1 last (rw (line_here c.loop-line._line c.loop-line.rest.now (omega arith) n) (c.f.new.self, called, rw c.split.ensures.behind at h)))

pub returns : goal.returns
returns g c =
    let e : 100000 - c.loop-line._line ≡ 0 = omega arith in
    (c.loop-line.f, c.loop-line.invariant.1 c.loop-line.f (rw e refl))
