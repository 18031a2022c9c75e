-- `listing::write_lines` meets its contract. Assumes nothing.
use native.Mathlib.Omega.{arith}
use Rattle.listing.proofs.Lines.{writing_none, line_fits, line_ends, writing_more, writing_done}
use Rattle.listing.proofs.write_lines.Goals as goal

pub loop-k-init : goal.loop-k-init
loop-k-init c = writing_none c.args.f.now c.args.report.now c.requires

pub overflow_add-at : goal.overflow_add-at
overflow_add-at c =
    let e = line_ends c.loop-k.invariant c.line_length-n.result (omega (arith, c.loop-k-test.true)) (c.line_length-n.ensures c.loop-k.k) in omega arith

pub slice_bounds-write_line-end : goal.slice_bounds-write_line-end
slice_bounds-write_line-end c = line_fits c.loop-k.invariant c.line_length-n.result (omega (arith, c.loop-k-test.true)) (c.line_length-n.ensures c.loop-k.k)

pub loop-k-preserved : goal.loop-k-preserved
loop-k-preserved c =
    writing_more c.loop-k.invariant c.line_length-n.result (omega (arith, c.loop-k-test.true)) (c.line_length-n.ensures c.loop-k.k) _ _ (omega arith) c.write_line.ensures

pub returns : goal.returns
returns c = writing_done c.loop-k.invariant (omega (arith, c.loop-k-test.false))
