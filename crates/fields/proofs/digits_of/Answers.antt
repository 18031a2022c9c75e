-- `fields::digits_of` meets its contract. Assumes nothing.
use Rattle.std.proofs.Common.{sym, ◌∙◌, arith}
use Rattle.fields.proofs.Read.{below, turn}
use Rattle.fields.proofs.digits_of.Goals as goal

pub overflow_mul-n : goal.overflow_mul-n
overflow_mul-n c = let l = c.loop-d in omega (arith, below 8 l.n l.d-index l.invariant.1 (omega arith))

pub overflow_add-n : goal.overflow_add-n
overflow_add-n c = let l = c.loop-d in omega (arith, below 8 l.n l.d-index l.invariant.1 (omega arith))

pub loop-d-preserved : goal.loop-d-preserved
loop-d-preserved c =
    let l = c.loop-d in
    let d = sym c.is_ascii_digit.ensures.value ∙ c.if-not-is_ascii_digit.false in
    rw c.from.ensures (turn c.args.f.now l.d-index l.n (omega arith) l.invariant.2 (omega arith) (omega arith) l.invariant.0 l.invariant.1 d)
