-- `run_sums::nothing_in` meets its contract. Assumes nothing.
use Rattle.std.proofs.Common.{rules}
use borrow.Author.Tests.{eqb-true}
use Rattle.inventory.specs.Order.{grams_in, rest_in, total_grams_in, total_rest_in}
use Rattle.run_sums.proofs.Together.{within, all_none}
use Rattle.run_sums.proofs.nothing_in.Goals as goal

pub returns : goal.returns
returns g c =
    let run = g.R.RunNumbers.run c.args.run.now in
    let u = within (grams_in run) (rest_in run) _ _ _ (λ i x p. search rules) c.or_of-sums.ensures in
    let v = within (total_grams_in run) (total_rest_in run) _ _ _ (λ i x p. search rules) c.or_of-totals.ensures in
    λ e. all_none run _ _ _ _ u.0 u.1 v.0 v.1 (eqb-true _ 0 e)
