-- `run_sums::each_sum_ok` meets its contract. Assumes nothing.
use Rattle.std.proofs.Common.{rules, refl}
use Rattle.units.proofs.Ranges.{all_range}
use Rattle.inventory.specs.Order.{sum_ok}
use Rattle.run_sums.proofs.each_sum_ok.Goals as goal

pub returns : goal.returns
returns g c = all_range (sum_ok (g.R.RunNumbers.run c.args.run.now)) 60 _ _ _ c.all.ensures.ran refl (λ x b q k. search rules)
