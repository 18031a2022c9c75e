-- `text::write_number` meets its contract. Assumes nothing.
use Rattle.std.proofs.Common.{rules}
use Rattle.text.proofs.Write.{first}
use Rattle.text.proofs.write_number.Goals as goal

pub loop-i-init : goal.loop-i-init
loop-i-init c = (search rules, first c.args.f.now c.args.n (search rules))
