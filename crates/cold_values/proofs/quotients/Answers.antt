-- `cold_values::quotients` meets its contract. Assumes nothing.
use mathlib.Core.Path.{◌≡◌, refl, sym, ap, ◌∙◌}
use Prim.Native.Nat.{ℕ, ◌+◌, ◌*◌, ◌/◌, ◌<◌}
use native.Mathlib.Omega.{arith}
use Rattle.units.specs.Rounding.{half_up}
use Rattle.units.proofs.Rounds.{half_up_even}
use Rattle.units.proofs.Tab.{filled_none, filled_more, filled_at, filled}
use borrow.Author.Tests.{lt-ltb}
use Rattle.classes.specs.Classes.{has_own_x, beta_reduction, x_count}
use Rattle.coldstart.specs.ColdStart.{x_from}
use Rattle.cold_values.proofs.quotients.Goals as goal

-- n over the divisor that has this half, half up
divided : (n h d : ℕ) → h * 2 ≡ d → (n + h) / (h * 2) ≡ half_up n d
divided n h d e = half_up_even n h ∙ ap (half_up n) e

pub loop-i-init : goal.loop-i-init
loop-i-init c = (omega arith, refl, filled_none _ _ _ refl)

pub loop-i-preserved : goal.loop-i-preserved
unfolding x_from
loop-i-preserved c =
    let l = c.loop-i in
    let h : l.i < 15 = c.loop-i-test.true in
    (omega arith, l.invariant.1, filled_more _ l.invariant.2 (omega arith) (rw (lt-ltb l.i 15 h) (divided _ _ _ (omega (arith, l.invariant.1)))))

pub returns : goal.returns
unfolding x_from beta_reduction has_own_x
returns c =
    let inv = c.loop-i.invariant in
    let last : c.loop-i.i ≡ 15 = omega (arith, inv.0, c.loop-i-test.false) in
    filled (filled_at 15 x_count _ inv.2 (sym last) refl (omega arith) (divided _ _ _ (omega arith))) (omega arith) (omega arith)
