-- `order::kms_ok` meets its contract. Assumes nothing.
use Rattle.std.proofs.Common.{rules, refl}
use Rattle.units.proofs.Ranges.{all_range}
use Rattle.inventory.specs.Order.{km_ok}
use Rattle.order.proofs.kms_ok.Goals as goal

pub returns : goal.returns
returns g c = all_range (km_ok (g.R.RunNumbers.run c.args.run.now)) 3 _ _ _ c.all.ensures.ran refl (λ x b q k. search rules)
