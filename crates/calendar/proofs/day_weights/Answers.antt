-- `calendar::day_weights` meets its contract. Assumes nothing.
use mathlib.Core.Path.{◌≡◌, refl, sym, ap, ◌∙◌}
use native.Mathlib.Omega.{arith}
use Rattle.units.specs.Lists.{sum_to}
use Rattle.units.proofs.Rounds.{sum_more}
use Rattle.units.proofs.Tab.{filled_none, filled_more, filled}
use Rattle.calendar.specs.Periods.{days_in}
use Rattle.calendar.proofs.Laws.{days_most, weights_sum}
use Rattle.calendar.proofs.day_weights.Goals as goal

pub loop-k-init : goal.loop-k-init
unfolding sum_to
loop-k-init c = (omega arith, refl, filled_none _ 12 _ refl)

pub overflow_add-whole : goal.overflow_add-whole
overflow_add-whole c =
    let l = c.loop-k in
    omega (arith, l.invariant.0, c.days_in-days.ensures, days_most c.args.d l.k c.loop-k-test.true)

pub loop-k-preserved : goal.loop-k-preserved
loop-k-preserved c =
    let l = c.loop-k in
    let d = c.args.d in
    let h = c.loop-k-test.true in (
      omega (arith, l.invariant.0, c.days_in-days.ensures, days_most d l.k h),
      rw (l.invariant.1, c.days_in-days.ensures) (sym (sum_more (days_in d) l.k)),
      filled_more _ l.invariant.2 h c.days_in-days.ensures,
    )

pub returns : goal.returns
returns c =
    let l = c.loop-k in
    let e : l.k ≡ 12 = omega arith in
    record {
      months = filled l.invariant.2 (omega arith) (omega arith);
      whole = l.invariant.1 ∙ ap (sum_to (days_in c.args.d)) e ∙ weights_sum _ c.requires;
    }
