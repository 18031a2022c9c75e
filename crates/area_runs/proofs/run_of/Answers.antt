-- `area_runs::run_of` meets its contract. Assumes nothing.
use Rattle.std.proofs.Common.{rules}
use Rattle.units.proofs.Ranges.{list_made}
use Rattle.inventory.proofs.Runs.{by_parts}
use Rattle.areas.specs.Numbers.{run_at}
use Rattle.areas.proofs.Numbers.{shaped_at}
use Rattle.area_runs.proofs.run_of.Goals as goal

pub returns : goal.returns
returns c =
    let run = run_at c.args.area.now.numbers.now 0 in
    let s = shaped_at c.args.area.now.numbers.now 0 in
    by_parts _ run c.trip.ensures
    (list_made 0 run.x 16 _ _ c.from_fn.ensures.items s.xs (λ i y q k. search rules))
    c.count.ensures
    (list_made (record { 0 = 0 }) run.km 3 _ _ c.from_fn-2.ensures.items s.kms (λ i y q k. search rules))
    (list_made (record { 0 = 0 }) run.grams 60 _ _ c.from_fn-3.ensures.items s.grams (λ i y q k. search rules))
    (list_made 0 run.rests 60 _ _ c.from_fn-4.ensures.items s.rests (λ i y q k. search rules))
    (list_made (record { 0 = 0 }) run.total_grams 15 _ _ c.from_fn-5.ensures.items s.total_grams (λ i y q k. search rules))
    (list_made 0 run.total_rests 15 _ _ c.from_fn-6.ensures.items s.total_rests (λ i y q k. search rules))
