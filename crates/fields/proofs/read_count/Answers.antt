-- `fields::read_count` meets its contract. Assumes nothing.
use Rattle.fields.proofs.Read.{count_said}
use Rattle.fields.proofs.read_count.Goals as goal

pub returns-in_err-n : goal.returns-in_err-n
returns-in_err-n c =
    let e = count_said c.args.f.now c.behind_spaces-digits.result.now c.digits_of.result c.behind_spaces-digits.ensures c.digits_of.ensures in
    let was = c.in_err-n.was in
    let res = c.from_residual.ensures in
    cc

pub returns : goal.returns
returns c =
    let e = count_said c.args.f.now c.behind_spaces-digits.result.now c.digits_of.result c.behind_spaces-digits.ensures c.digits_of.ensures in
    let was = c.in_ok-n.was in
    let res = c.from.ensures in
    cc
