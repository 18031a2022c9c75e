-- `long_division::divided` meets its contract. Assumes nothing.
use Rattle.std.proofs.Common.{◌≡◌, ◌*◌, arith}
use Rattle.long_division.proofs.Steps.{left_below, digit_more, digit_below, quotient_most, none_yet, ends_here}
use Rattle.long_division.proofs.divided.Goals as goal

pub returns-then-r-eq0 : goal.returns-then-r-eq0
returns-then-r-eq0 c =
    let l = c.loop-n in
    ends_here c.args.s c.args.f.0 l.q l.r l.n l.invariant.0 l.invariant.1.0 (omega arith) l.invariant.1.1 (λ u. c.if-r-eq0.true)

pub overflow_mul-q : goal.overflow_mul-q
overflow_mul-q c =
    let l = c.loop-n in
    omega (arith, quotient_most c.args.s c.args.f.0 l.n l.q l.r c.requires (omega arith) l.invariant.0 l.invariant.1.0)

pub overflow_add-q : goal.overflow_add-q
overflow_add-q c =
    let l = c.loop-n in
    omega (
      arith,
      quotient_most c.args.s c.args.f.0 l.n l.q l.r c.requires (omega arith) l.invariant.0 l.invariant.1.0,
      digit_below l.r c.args.f.0 c.times_in-d.result l.invariant.1.0 c.times_in-d.ensures,
    )

pub loop-n-preserved : goal.loop-n-preserved
loop-n-preserved c =
    let l = c.loop-n in
    let d = c.times_in-d in (
      digit_more c.args.s c.args.f.0 l.n l.q l.r d.result l.invariant.0 d.ensures,
      (
        left_below (l.r * 10) d.result c.args.f.0 d.ensures c.requires.divisor,
        none_yet c.args.s c.args.f.0 l.q l.r l.n l.invariant.0 l.invariant.1.0 (omega arith) l.invariant.1.1 c.if-r-eq0.false,
      ),
    )

pub returns : goal.returns
returns c =
    let l = c.loop-n in
    let last : 12 ≡ l.n = omega arith in
    rw last (ends_here c.args.s c.args.f.0 l.q l.r l.n l.invariant.0 l.invariant.1.0 (omega arith) l.invariant.1.1 (λ u. absurd (omega arith)))
