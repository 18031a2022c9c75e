-- `order::xs_ok` meets its contract. Assumes nothing.
use Rattle.std.proofs.Common.{rules, refl}
use borrow.Author.Tests.{tests}
use Rattle.units.proofs.Ranges.{all_range}
use Rattle.inventory.specs.Order.{x_ok}
use Rattle.order.proofs.xs_ok.Goals as goal

pub returns : goal.returns
returns g c = all_range (x_ok (g.R.RunNumbers.run c.args.run.now)) 16 _ _ _ c.all.ensures.ran refl (λ x b q k. search (rules, tests))
