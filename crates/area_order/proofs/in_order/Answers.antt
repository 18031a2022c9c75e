-- `area_order::in_order` meets its contract. Assumes nothing.
use Rattle.std.proofs.Common.{◌≡◌, sym, ◌∙◌, arith}
use Rattle.units.proofs.Tests.{more}
use Rattle.area_order.proofs.Tests.{bad_area, last_common, bad_common, area_is, sum_more, count_few}
use Rattle.area_order.proofs.in_order.Goals as goal

pub returns-then-not-area_ok : goal.returns-then-not-area_ok
returns-then-not-area_ok c =
    let e = rw (c.at-run.ensures, c.at-first.ensures) at c.if-not-area_ok.ensures in
    bad_area c.args.numbers.now c.if-numbers-ne2737.false c.loop-i.i c.loop-i-test.true (area_is c.args.numbers.now c.loop-i.i ∙ sym e)

pub overflow_add-common : goal.overflow_add-common
overflow_add-common c =
    let e = rw (c.at-run.ensures, c.at-first.ensures) at c.if-not-area_ok.ensures in
    let few = count_few c.args.numbers.now c.loop-i.i (area_is c.args.numbers.now c.loop-i.i ∙ sym e) in
    let k = rw c.at-run.ensures at c.count.ensures in
    omega (arith, few, k, c.saturating_sub-common.ensures)

pub loop-i-preserved : goal.loop-i-preserved
loop-i-preserved c =
    let l = c.args.numbers.now in let i = c.loop-i.i in
    let e = rw (c.at-run.ensures, c.at-first.ensures) at c.if-not-area_ok.ensures in
    let t = area_is l i ∙ sym e in
    let k = rw c.at-run.ensures at c.count.ensures in
    record {
      small = omega (arith, count_few l i t, k, c.saturating_sub-common.ensures);
      ok = more _ _ c.loop-i.invariant.ok t;
      sum = sum_more l i c.loop-i.common _ _ c.loop-i.invariant.sum c.saturating_sub-common.ensures k;
    }

pub returns-then-numbers-common : goal.returns-then-numbers-common
returns-then-numbers-common c =
    let z : c.loop-i.i ≡ 16 = omega arith in
    let a = rw z at c.loop-i.invariant.ok in
    let s = rw z at c.loop-i.invariant.sum in
    last_common c.args.numbers.now c.if-numbers-ne2737.false c.loop-i.common a s c.if-numbers-common.true

pub returns-else-numbers-common : goal.returns-else-numbers-common
returns-else-numbers-common c =
    let z : c.loop-i.i ≡ 16 = omega arith in
    let a = rw z at c.loop-i.invariant.ok in
    let s = rw z at c.loop-i.invariant.sum in
    bad_common c.args.numbers.now c.if-numbers-ne2737.false c.loop-i.common a s c.if-numbers-common.false
