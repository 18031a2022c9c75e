-- `recording::enter` meets its contract. Assumes nothing.
use mathlib.Core.Path.{ap, ◌∙◌}
use native.Mathlib.Omega.{arith}
use Rattle.classes.proofs.Classes.{fuel_below}
use Rattle.inventory.specs.Adding.{run_with, with_totals}
use Rattle.inventory.proofs.Order.{run_limits}
use Rattle.run_totals.proofs.Totals.{amounts_limits}
use Rattle.recording.proofs.Runs.{raised_limits, others_kept}
use Rattle.recording.proofs.enter.Goals as goal

pub raise-requires : goal.raise-requires
raise-requires c = record { record_limits = c.requires.record_limits; run_limits = (run_limits _ c.requires.run_value.0, c.requires.run_value.1) }

pub overflow_mul-first : goal.overflow_mul-first
overflow_mul-first c = omega (arith, c.fuel_of-first.ensures, fuel_below c.args.rec.class)

pub overflow_add-first : goal.overflow_add-first
overflow_add-first c = omega (arith, c.fuel_of-first.ensures, fuel_below c.args.rec.class)

pub make_totals-requires : goal.make_totals-requires
make_totals-requires c =
    let run = c.args.run.now in
    let rec = c.args.rec in
    let o = c.requires.run_value.0 in
    let f = c.fuel_of-first.ensures in
    rw c.raise.ensures
    (record {
      run_limits = amounts_limits _ (raised_limits run rec o c.requires.record_limits c.requires.run_value.1);
      from_le_to = (omega arith, omega (arith, f, fuel_below rec.class), others_kept run rec o _ f);
    })

pub returns : goal.returns
unfolding run_with
returns c = c.make_totals.ensures ∙ ap with_totals c.raise.ensures
