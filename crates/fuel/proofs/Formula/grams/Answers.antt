-- `fuel::Formula::grams` meets its contract. Assumes nothing.
use mathlib.Core.Path.{sym}
use Prim.Native.Nat.{◌-◌}
use native.Mathlib.Omega.{arith}
use Rattle.inventory.proofs.Order.{total_limits}
use Rattle.inventory.proofs.Totals.{answer_given, total_most}
use Rattle.totals.proofs.Asked.{answer_passed}
use Rattle.fuel.proofs.Contents.{contained_ok, sized}
use Rattle.fuel.proofs.Formula.grams.Goals as goal

pub returns-in_err-content_verdict : goal.returns-in_err-content_verdict
returns-in_err-content_verdict c = answer_passed _ _ _ _ _ c.from_residual.ensures.1 c.in_err-content_verdict.was c.content_verdict.ensures

pub overflow_sub-fuel : goal.overflow_sub-fuel
overflow_sub-fuel c =
    let a = contained_ok _ _ _ _ _ _ c.in_ok-content_verdict.was c.content_verdict.ensures in
    omega arith

pub total_at-f-requires : goal.total_at-f-requires
total_at-f-requires c =
    let a = contained_ok _ _ _ _ _ _ c.in_ok-content_verdict.was c.content_verdict.ensures in
    record { total_limits = total_limits _ a.order; fuel_bound = omega arith }

pub overflow_mul-self : goal.overflow_mul-self
overflow_mul-self c =
    let a = contained_ok _ _ _ _ _ _ c.in_ok-content_verdict.was c.content_verdict.ensures in
    let z = sized c.args.self.limit c.args.content c.args.self.a c.args.self.b c.args.self.c c.args.self.d a.content_high c.requires.1 c.requires.2 in
    omega (arith, z.0, z.1)

pub overflow_add-self : goal.overflow_add-self
overflow_add-self c =
    let a = contained_ok _ _ _ _ _ _ c.in_ok-content_verdict.was c.content_verdict.ensures in
    let z = sized c.args.self.limit c.args.content c.args.self.a c.args.self.b c.args.self.c c.args.self.d a.content_high c.requires.1 c.requires.2 in
    omega (arith, z.0, z.1)

pub overflow_mul-self-2 : goal.overflow_mul-self-2
overflow_mul-self-2 c =
    let a = contained_ok _ _ _ _ _ _ c.in_ok-content_verdict.was c.content_verdict.ensures in
    let z = sized c.args.self.limit c.args.content c.args.self.a c.args.self.b c.args.self.c c.args.self.d a.content_high c.requires.1 c.requires.2 in
    omega (arith, z.0, z.1)

pub overflow_add-self-2 : goal.overflow_add-self-2
overflow_add-self-2 c =
    let a = contained_ok _ _ _ _ _ _ c.in_ok-content_verdict.was c.content_verdict.ensures in
    let z = sized c.args.self.limit c.args.content c.args.self.a c.args.self.b c.args.self.c c.args.self.d a.content_high c.requires.1 c.requires.2 in
    omega (arith, z.0, z.1)

pub scaled-requires : goal.scaled-requires
scaled-requires c =
    let a = contained_ok _ _ _ _ _ _ c.in_ok-content_verdict.was c.content_verdict.ensures in
    let z = sized c.args.self.limit c.args.content c.args.self.a c.args.self.b c.args.self.c c.args.self.d a.content_high c.requires.1 c.requires.2 in
    let m = total_most _ a.order (c.args.fuel - 1) 4 (omega arith) (omega arith) in
    record { grams = rw c.total_at-f.ensures m; divisor = omega (arith, c.requires.0); small = z.1; factor = omega (arith, z.0) }

pub returns : goal.returns
returns c = answer_given _ _ _ _ _ c.in_ok-content_verdict.was c.content_verdict.ensures (rw (sym c.total_at-f.ensures) c.scaled.ensures)
