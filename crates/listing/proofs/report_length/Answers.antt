-- `listing::report_length` meets its contract. Assumes nothing.
use mathlib.Core.Path.{ap}
use native.Mathlib.Omega.{arith}
use lib.ListN.{length}
use Rattle.figures.specs.Table.{row_in}
use Rattle.report_lines.proofs.Line.{line_most}
use Rattle.listing.proofs.Lines.{all_lines, unrolled_length, no_lines}
use Rattle.listing.proofs.report_length.Goals as goal

pub loop-row-init : goal.loop-row-init
loop-row-init c = let e = ap length (all_lines c.args.f.now) in (omega arith, omega arith)

pub overflow_add-n : goal.overflow_add-n
overflow_add-n c =
    let k = c.loop-row.row-index in
    let e = c.line_length-n.ensures k in
    let m = line_most k (row_in c.args.f.now k) in
    omega arith

pub loop-row-preserved : goal.loop-row-preserved
loop-row-preserved c =
    let l = c.loop-row in
    let f = c.args.f.now in
    let k = l.row-index in
    let u = unrolled_length f k (omega arith) in
    let e = c.line_length-n.ensures k in
    let m = line_most k (row_in f k) in
    (omega arith, omega arith)

pub returns : goal.returns
returns c =
    let e = ap length (no_lines c.args.f.now c.loop-row.row-index (omega arith)) in
    omega arith
