-- `lines::temps_in` meets its contract. Assumes nothing.
use Rattle.std.proofs.Common.{rules}
use Prim.Native.Nat.{◌+◌, ◌-◌, ◌*◌}
use mathlib.Core.Path.{◌≡◌, refl, sym, ◌∙◌}
use native.Mathlib.Omega.{arith}
use lib.IntN.{pos}
use lib.ListN.{length-set, replicate}
use mir.Syntax.{w64}
use mir.Val.{to_z, of_z}
use Rattle.lines.proofs.Heads.{begin, missing, filled, full}
use Rattle.lines.proofs.temps_in.Goals as goal

pub loop-j-init : goal.loop-j-init
loop-j-init c = (refl, begin c.args.s.now (replicate 12 (pos 0)))

pub returns-in_err-temps : goal.returns-in_err-temps
returns-in_err-temps c =
    let l = c.loop-j in
    let five : 5 * l.j + 5 + 5 - (5 * l.j + 5) ≡ 5 = omega arith in
    c.from_residual.ensures ∙ sym (missing c.args.s.now l.temps l.j c.loop-j-test.true (rw five at (sym c.read_number.ensures ∙ c.in_err-temps.was))) ∙ l.invariant.1

pub loop-j-preserved : goal.loop-j-preserved
loop-j-preserved c =
    let l = c.loop-j in
    let five : 5 * l.j + 5 + 5 - (5 * l.j + 5) ≡ 5 = omega arith in
    let z : to_z w64 (of_z w64 c.in_ok-temps.field-0) ≡ c.in_ok-temps.field-0 = search rules in (
      simp length-set l.invariant.0,
      rw z (sym (filled c.args.s.now l.temps l.j c.loop-j-test.true _ (omega arith) (rw five at (sym c.read_number.ensures ∙ c.in_ok-temps.was))) ∙ l.invariant.1),
    )

pub returns : goal.returns
returns c =
    let l = c.loop-j in
    let last : l.j ≡ 12 = omega arith in
    sym (full c.args.s.now l.temps (omega arith)) ∙ (rw last at l.invariant.1)
