-- `cold_values::values_of` meets its contract. Assumes nothing.
use mathlib.Core.Path.{◌≡◌, refl, ap, ◌∙◌}
use Prim.Native.Nat.{◌*◌, ◌≤◌}
use native.Mathlib.Omega.{arith}
use lib.IntN.{pos, nat_abs}
use lib.ListN.{get_or}
use Rattle.units.specs.Lists.{tab, sum_to}
use Rattle.units.proofs.Rounds.{mul_most}
use Rattle.classes.specs.Classes.{x_count}
use Rattle.calendar.proofs.Periods.{weight_positive, weight_high}
use Rattle.coldstart.specs.ColdStart.{cold_share, with_month, x_of_sums}
use Rattle.coldstart.proofs.ColdStart.{read, read_ok, share_whole, small_sums, sums_to, sums_more, sums_kept, sums_x}
use Rattle.cold_values.proofs.values_of.Invariants.{weight_in, weight_is, light}
use Rattle.cold_values.proofs.values_of.Goals as goal

-- weight × share is at most 31 × 90,265,000
month : (c : goal.After-cold_share-share) → weight_in c.weights_of-weights.result.months c.loop-k.k * c.cold_share-share.result ≤ 31 * 90265000
month c =
    let w = c.requires.1 in
    let k = c.loop-k.k in
    let ok = read_ok _ (w.temperatures k (omega arith)) in
    mul_most _ _ 31 90265000 (light c.args.period _ c.weights_of-weights.ensures.months k (omega arith))
    (omega (arith, c.cold_share-share.ensures, (share_whole c.args.l w.trip_low w.trip_high _ ok).most))

pub loop-k-init : goal.loop-k-init
unfolding tab sums_to sum_to
loop-k-init c = (omega arith, refl)

pub loop-k-preserved-then-weight-eq0 : goal.loop-k-preserved-then-weight-eq0
loop-k-preserved-then-weight-eq0 c =
    let l = c.loop-k in
    let months = c.weights_of-weights.result.months in
    (omega arith, l.invariant.1 ∙ sums_kept (weight_in months) _ _ l.k c.if-weight-eq0.true)

pub overflow_mul-weight : goal.overflow_mul-weight
overflow_mul-weight c = omega (arith, month c)

pub with_month-next-requires : goal.with_month-next-requires
with_month-next-requires c =
    let w = c.requires.1 in
    let l = c.loop-k in
    let e = c.weights_of-weights.ensures.months in
    let ok = read_ok _ (w.temperatures l.k (omega arith)) in
    (c.requires.0, small_sums _ _ w _ (light c.args.period _ e) l.k _ (omega arith) l.invariant.1, omega (arith, month c.before), ok)

pub loop-k-preserved : goal.loop-k-preserved
loop-k-preserved c =
    let l = c.loop-k in
    let months = c.weights_of-weights.result.months in
    let t = get_or c.args.temps.now l.k (pos 0) in
    let r = read t (c.requires.1.temperatures l.k (omega arith)) in
    let b = c.cold_share-share.ensures ∙ ap (λ z. nat_abs (cold_share c.args.l z)) r in
    (omega arith, c.with_month-next.ensures ∙ (λ j. tab (with_month (l.invariant.1 j) (weight_in months l.k * b j) (r j)) 15) ∙ sums_more (weight_in months) _ _ l.k)

pub rounded-requires : goal.rounded-requires
rounded-requires c =
    let l = c.loop-k in
    let e = c.weights_of-weights.ensures in
    let z = c.requires.2 in (
      small_sums _ _ c.requires.1 _ (light c.args.period _ e.months) l.k _ (omega arith) l.invariant.1,
      rw e.whole (weight_positive c.args.period z),
      rw e.whole (weight_high c.args.period z),
    )

pub returns : goal.returns
returns c =
    let l = c.loop-k in
    let e = c.weights_of-weights.ensures in
    let months = c.weights_of-weights.result.months in
    let last : l.k ≡ 12 = omega arith in
    c.rounded.ensures
    ∙ (λ j. tab (x_of_sums (e.whole j) ((l.invariant.1 ∙ ap (λ k. tab (sums_to (weight_in months) c.args.l c.args.temps.now k) 15) last) j)) x_count)
    ∙ sums_x c.args.period _ _ (weight_in months) (weight_is c.args.period months e.months)
