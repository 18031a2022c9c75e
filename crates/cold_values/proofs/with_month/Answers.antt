-- `cold_values::with_month` meets its contract. Assumes nothing.
use mathlib.Core.Path.{◌≡◌, refl, sym, ap, subst, ◌∙◌}
use Prim.Native.Nat.{◌≤◌, ◌<◌, ◌*◌, ◌+◌}
use native.Mathlib.Omega.{arith}
use lib.ListN.{get_or}
use mir.Syntax.{w64}
use mir.Val.{to_z, of_z}
use Rattle.units.specs.Lists.{tab}
use Rattle.units.proofs.Between.{between_more, between}
use Rattle.units.proofs.Rounds.{mul_most}
use Rattle.coldstart.specs.ColdStart.{SlopeLimits, cold_excess, with_month}
use Rattle.coldstart.proofs.ColdStart.{entry, entry_limits, entry_read, excess_most, read, read_ok}
use Rattle.cold_values.proofs.with_month.Goals as goal

-- the new sum, and the bounds of the month and of the sum
turn : (c : goal.After-cold_excess) →
    (c.args.b * c.cold_excess.result ≤ 151200000000000) ×
    (get_or c.loop-i.r c.loop-i.i 0 ≤ 1814000000000000) ×
    (get_or c.loop-i.r c.loop-i.i 0 + c.args.b * c.cold_excess.result ≡ with_month c.args.sums c.args.b (to_z w64 (of_z w64 c.args.t)) c.loop-i.i)
unfolding with_month entry
turn c =
    let i = c.loop-i.i in
    let h : i < 15 = c.loop-i-test.true in
    let e = c.cold_excess.ensures ∙ ap (λ g. cold_excess g (to_z w64 (of_z w64 c.args.t))) (entry_read i h c.args.table.now c.requires.0) in
    let old = c.loop-i.invariant.1.above i (omega arith) in (
      mul_most _ _ 2800000000 54000 c.requires.2 (subst (λ n. n ≤ 54000) (sym e) (excess_most (entry i) _ (entry_limits i h) (read_ok _ c.requires.3))),
      subst (λ n. n ≤ 1814000000000000) (sym old) (c.requires.1.each i h),
      λ j. old j + c.args.b * e j,
    )

pub cold_excess-requires : goal.cold_excess-requires
cold_excess-requires c =
    let i = c.loop-i.i in
    let h : i < 15 = c.loop-i-test.true in
    (subst SlopeLimits (sym (entry_read i h c.args.table.now c.requires.0)) (entry_limits i h), read_ok _ c.requires.3)

pub overflow_mul-r : goal.overflow_mul-r
overflow_mul-r c = omega (arith, (turn c).0)

pub overflow_add-r : goal.overflow_add-r
overflow_add-r c = omega (arith, (turn c).0, (turn c).1)

pub loop-i-preserved : goal.loop-i-preserved
loop-i-preserved c = (omega arith, between_more _ _ _ c.loop-i.invariant.1 refl refl (omega arith) c.loop-i-test.true (turn c).2)

pub returns : goal.returns
returns c =
    between c.loop-i.invariant.1 (λ j a b. absurd (b (omega arith) (omega arith))) ∙ ap (λ z. tab (with_month c.args.sums c.args.b z) 15) (read c.args.t c.requires.3)
