-- `fields::read_number` meets its contract. Assumes nothing.
use Rattle.std.proofs.Common.{◌<◌, ◌∙◌, arith, rules}
use Rattle.fields.proofs.Read.{minus_read, plain_read, blank_read, signed_said, as_pos, as_minus}
use Rattle.fields.proofs.read_number.Goals as goal

pub returns-in-empty : goal.returns-in-empty
returns-in-empty c = blank_read c.args.f.now c.behind_spaces-f.result.now c.behind_spaces-f.ensures (search rules)

pub returns-in_err-n-in-45 : goal.returns-in_err-n-in-45
returns-in_err-n-in-45 c =
    let e = minus_read c.args.f.now c.behind_spaces-f.result.now c.digits_of.result c.behind_spaces-f.ensures (search rules) (omega arith) c.digits_of.ensures in
    c.from_residual.ensures ∙ rw c.in_err-n-in-45.was at e

pub returns-in_ok-n-in-45 : goal.returns-in_ok-n-in-45
returns-in_ok-n-in-45 c =
    let e = minus_read c.args.f.now c.behind_spaces-f.result.now c.digits_of.result c.behind_spaces-f.ensures (search rules) (omega arith) c.digits_of.ensures in
    let h : c.in_ok-n-in-45.n < 9223372036854775808 = rw c.from.ensures at c.from.type_inv in
    let m = as_minus c.in_ok-n-in-45.n h in
    c.then_some.ensures ∙ rw (c.from.ensures, m) (signed_said c.in_ok-n-in-45.n ∙ rw c.in_ok-n-in-45.was at e)

pub returns-in_err-n-in_default : goal.returns-in_err-n-in_default
returns-in_err-n-in_default c =
    let e = plain_read c.args.f.now c.behind_spaces-f.result.now c.behind_spaces-f.ensures c.digits_of-in_default.result c.digits_of-in_default.ensures (λ p z. omega arith) in
    c.from_residual-in_err-n-in_default.ensures ∙ rw c.in_err-n-in_default.was at e

pub returns-in_ok-n-in_default : goal.returns-in_ok-n-in_default
returns-in_ok-n-in_default c =
    let e = plain_read c.args.f.now c.behind_spaces-f.result.now c.behind_spaces-f.ensures c.digits_of-in_default.result c.digits_of-in_default.ensures (λ p z. omega arith) in
    let h : c.in_ok-n-in_default.n < 9223372036854775808 = rw c.from-in_default.ensures at c.from-in_default.type_inv in
    rw (c.from-in_default.ensures, as_pos c.in_ok-n-in_default.n h) (rw c.in_ok-n-in_default.was at e)
