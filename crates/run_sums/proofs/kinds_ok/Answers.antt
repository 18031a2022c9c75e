-- `run_sums::kinds_ok` meets its contract. Assumes nothing.
use Rattle.std.proofs.Common.{rules, arith}
use Rattle.inventory.specs.Order.{grams_in, rest_in}
use Rattle.run_sums.specs.Marks.{rest_mark}
use Rattle.run_sums.proofs.Together.{within, together}
use Rattle.run_sums.proofs.kinds_ok.Goals as goal

pub returns-then-sums-count : goal.returns-then-sums-count
returns-then-sums-count g c =
    let run = g.R.RunNumbers.run c.args.run.now in
    let w = within (grams_in run) (λ j. rest_mark (rest_in run j)) _ _ _ (λ i x p. search rules) c.or_of-sums.ensures in
    together run _ w.0 _ w.1 c.if-sums-lt536870912.true (omega arith)
