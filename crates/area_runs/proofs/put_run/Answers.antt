-- `area_runs::put_run` meets its contract. Assumes nothing.
use Rattle.std.proofs.Common.{rules, get_or}
use Rattle.inventory.specs.Order.{rest_in, km_in, grams_in, total_grams_in, total_rest_in}
use Rattle.area_runs.proofs.Written.{run_put}
use Rattle.area_runs.proofs.put_run.Goals as goal

pub returns : goal.returns
returns c =
    let run = c.args.run.now in
    run_put c.args.area.now run _ _ _ _ _ _ c.requires (c.fill.ensures (λ i. get_or run.x i 0) (λ i x p. search rules))
    (c.fill-2.ensures (km_in run) (λ i x p. search rules)) (c.fill-3.ensures (grams_in run) (λ i x p. search rules))
    (c.fill-4.ensures (rest_in run) (λ i x p. search rules)) (c.fill-5.ensures (total_grams_in run) (λ i x p. search rules))
    (c.fill-6.ensures (total_rest_in run) (λ i x p. search rules))
