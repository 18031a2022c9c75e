-- `curves::values_of` meets its contract. Assumes nothing.
use mathlib.Core.Path.{refl, ◌∙◌}
use Prim.Native.Nat.{◌+◌, ◌<◌, ◌*◌}
use native.Mathlib.Omega.{arith}
use Rattle.units.proofs.Tab.{filled_none, filled_at}
use Rattle.curves.proofs.Curves.{read_value}
use Rattle.curves.proofs.values_of.Goals as goal

pub loop-q-init : goal.loop-q-init
loop-q-init c = filled_none _ _ _ refl

pub loop-q-preserved : goal.loop-q-preserved
loop-q-preserved c =
    let q = c.loop-q.q in
    let h : q < 5 = c.loop-q-test.true in
    let t = c.args.t.now in
    let v0 = c.value_at.ensures ∙ read_value t c.args.speeds.urban.0 c.args.speeds.rural.0 c.args.speeds.highway.0 q 0 (q * 3) (omega arith) (omega arith) (c.requires.0.row q h) in
    let v1 = c.value_at-in-loop-q.ensures ∙ read_value t c.args.speeds.urban.0 c.args.speeds.rural.0 c.args.speeds.highway.0 q 1 (q * 3 + 1) (omega arith) (omega arith) (c.requires.1.row q h) in
    let v2 = c.value_at-in-loop-q-2.ensures ∙ read_value t c.args.speeds.urban.0 c.args.speeds.rural.0 c.args.speeds.highway.0 q 2 (q * 3 + 2) (omega arith) (omega arith) (c.requires.2.row q h) in
    filled_at (q * 3 + 2) _ _ (filled_at (q * 3 + 1) (q * 3 + 2) _ (filled_at (q * 3) (q * 3 + 1) _ c.loop-q.invariant refl refl (omega (arith, h)) v0) refl (omega arith) (omega (arith, h)) v1) refl (omega arith) (omega (arith, h)) v2
