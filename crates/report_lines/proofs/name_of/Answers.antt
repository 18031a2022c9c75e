-- `report_lines::name_of` meets its contract. Assumes nothing.
use mathlib.Core.Path.{◌≡◌}
use native.Mathlib.Omega.{arith}
use Rattle.report_lines.proofs.name_of.Goals as goal

pub returns-in_default : goal.returns-in_default
returns-in_default c = let e : c.args.quantity ≡ 4 = omega arith in rw e
