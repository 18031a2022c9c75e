-- `coldstart::cold_share` meets its contract. Assumes nothing.
use mathlib.Core.Path.{sym, ap, ◌∙◌, subst}
use Prim.Native.Nat.{◌-◌, ◌*◌}
use native.Mathlib.Omega.{arith}
use lib.Dec.{T}
use lib.IntN.{ℤ, nat_abs, pos, ◌-ℤ◌, ◌*ℤ◌}
use lib.Signed.{non_neg}
use mir.Syntax.{w64}
use mir.Val.{to_z, of_z}
use Rattle.units.proofs.Signed.{Step, back, arg, cast, sub, mul, unsigned}
use Rattle.coldstart.proofs.ColdStart.{temperature_size, share_parts, share_whole}
use Rattle.coldstart.proofs.cold_share.Goals as goal

-- fall × t, as the machine has it
product : (c : goal.Start) → Step 38960000 (to_z w64 (97400 - 385 * c.args.l) *ℤ to_z w64 (of_z w64 c.args.t)) (pos (97400 - 385 * c.args.l) *ℤ c.args.t)
product c = mul tt (cast {m = 97400} tt (omega arith)) (arg tt (temperature_size _ c.requires.2))

-- base - fall × t
share : (c : goal.Start) → Step 103660000 (to_z w64 (64700000 - 250000 * c.args.l) -ℤ to_z w64 (of_z w64 (to_z w64 (97400 - 385 * c.args.l) *ℤ to_z w64 (of_z w64 c.args.t)))) (pos (64700000 - 250000 * c.args.l) -ℤ pos (97400 - 385 * c.args.l) *ℤ c.args.t)
share c = sub tt (cast {m = 64700000} tt (omega arith)) (back (product c))

pub overflow_mul-result : goal.overflow_mul-result
overflow_mul-result c = (product c).fit

pub overflow_sub-result : goal.overflow_sub-result
overflow_sub-result c = (share c).fit

pub overflow_cast-result-3 : goal.overflow_cast-result-3
overflow_cast-result-3 c =
    let e = share_parts c.args.l c.requires.0 c.requires.1 c.args.t ∙ (share_whole c.args.l c.requires.0 c.requires.1 c.args.t c.requires.2).same in
    unsigned tt (back (share c)) (subst (λ (z : ℤ). T (non_neg z)) (sym e) tt)

pub returns : goal.returns
returns c = ap nat_abs ((back (share c)).same ∙ share_parts c.args.l c.requires.0 c.requires.1 c.args.t)
