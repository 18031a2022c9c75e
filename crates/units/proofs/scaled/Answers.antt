-- `units::scaled` meets its contract. Assumes nothing.
use mathlib.Core.Path.{sym, ◌∙◌}
use Prim.Native.Nat.{◌+◌, ◌*◌, ◌/◌, ◌%◌}
use native.Mathlib.Nat.{mod-lt, mod-le, div-le_self}
use native.Mathlib.Omega.{arith}
use Rattle.units.proofs.Rounds.{half_up-nearest, split_scale, scale_whole, mul_most}
use Rattle.units.proofs.scaled.Goals as goal

pub overflow_mul-m : goal.overflow_mul-m
overflow_mul-m c =
    let w = scale_whole c.args.m c.args.f.0 c.args.d c.requires.factor in
    omega arith

pub overflow_add-m : goal.overflow_add-m
overflow_add-m c =
    let w = scale_whole c.args.m c.args.f.0 c.args.d c.requires.factor in
    let r = mul_most c.args.m (c.args.f.0 % c.args.d) 80000000 20000000 (omega arith) (omega (arith, mod-lt c.args.f.0 c.requires.divisor)) in
    let q = div-le_self (c.args.m * (c.args.f.0 % c.args.d)) c.args.d in
    omega arith

pub nearest_of-requires : goal.nearest_of-requires
nearest_of-requires c =
    let w = scale_whole c.args.m c.args.f.0 c.args.d c.requires.factor in
    let r = mul_most c.args.m (c.args.f.0 % c.args.d) 80000000 20000000 (omega arith) (omega (arith, mod-lt c.args.f.0 c.requires.divisor)) in
    let q = div-le_self (c.args.m * (c.args.f.0 % c.args.d)) c.args.d in
    let x = mod-le (c.args.m * (c.args.f.0 % c.args.d)) c.args.d in
    omega arith

pub returns : goal.returns
returns c =
    let a = c.args in
    let p = a.m * (a.f.0 % a.d) in
    c.nearest_of.ensures ∙
    sym (half_up-nearest (a.m * a.f.0) (a.m * (a.f.0 / a.d) + p / a.d) (p % a.d) a.d (split_scale a.m a.f.0 a.d) (mod-lt p c.requires.divisor))
