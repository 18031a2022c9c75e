-- `stored_totals::totals_ok` meets its contract. Assumes nothing.
use Rattle.std.proofs.Common.{rules, refl}
use Rattle.units.proofs.Ranges.{all_range}
use Rattle.inventory.specs.Order.{total_ok}
use Rattle.stored_totals.proofs.totals_ok.Goals as goal

pub returns : goal.returns
returns g c = all_range (total_ok (g.R.RunNumbers.run c.args.run.now)) 15 _ _ _ c.all.ensures.ran refl (λ x b q k. search rules)
