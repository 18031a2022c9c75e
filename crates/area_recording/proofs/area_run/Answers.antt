-- `area_recording::area_run` meets its contract. Assumes nothing.
use Rattle.std.proofs.Common.{◌∙◌, arith}
use Rattle.units.specs.Refusals.{answer_number}
use Rattle.inventory.specs.Opening.{given_run}
use Rattle.areas.specs.Numbers.{areas_of}
use Rattle.areas.specs.Calls.{area_run_number}
use Rattle.areas.proofs.Order.{size_is}
use Rattle.areas.proofs.Adding.{run_given}
use Rattle.area_recording.proofs.Adding.{run_refused}
use Rattle.area_recording.proofs.area_run.Goals as goal

pub returns-in_err-place : goal.returns-in_err-place
unfolding area_run_number
returns-in_err-place c =
    let h = rw c.in_err-place.was at c.place_of.ensures.refused in
    let p = run_refused c.args.numbers.now c.args.area c.from_residual.result _ c.from_residual.ensures.1 (h _) in record { number = p.0; run = p.1 }

pub at-requires : goal.at-requires
at-requires c = let p = rw c.in_ok-place.was at c.place_of.ensures.place in omega (arith, size_is _ p.2, p.0, p.1)

pub returns : goal.returns
unfolding answer_number given_run areas_of
returns c =
    let p = rw c.in_ok-place.was at c.place_of.ensures.place in
    let e = rw p.0 at c.at.ensures in
    let g = run_given c.args.numbers.now c.args.area p.2 p.1 in record { number = g.0; run = c.run_of.ensures ∙ e ∙ g.1 }
