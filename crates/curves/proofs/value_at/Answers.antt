-- `curves::value_at` meets its contract: each signed step fits an i64, and Horner's form is the curve. Assumes nothing.
use mathlib.Core.Path.{◌∙◌, ap, sym, subst}
use lib.Dec.{T}
use lib.IntN.{ℤ, nat_abs}
use lib.Signed.{non_neg, yes_non_neg}
use Rattle.units.proofs.Signed.{back, arg, cast, add, mul, unsigned}
use Rattle.curves.proofs.Curves.{horner_quadratic}
use Rattle.curves.proofs.value_at.Goals as goal

pub overflow_add-result : goal.overflow_add-result
overflow_add-result c = (add tt (back (mul tt (arg tt c.requires.first) (cast tt c.requires.speed))) (arg tt c.requires.second)).fit

pub overflow_mul-result-2 : goal.overflow_mul-result-2
overflow_mul-result-2 c =
    (mul tt (back (add tt (back (mul tt (arg tt c.requires.first) (cast tt c.requires.speed))) (arg tt c.requires.second))) (cast tt c.requires.speed)).fit

pub overflow_add-result-2 : goal.overflow_add-result-2
overflow_add-result-2 c =
    (add tt (back (mul tt (back (add tt (back (mul tt (arg tt c.requires.first) (cast tt c.requires.speed))) (arg tt c.requires.second))) (cast tt c.requires.speed))) (arg tt c.requires.third)).fit

pub overflow_cast-result : goal.overflow_cast-result
overflow_cast-result c =
    unsigned tt
    (back (add tt (back (mul tt (back (add tt (back (mul tt (arg tt c.requires.first) (cast tt c.requires.speed))) (arg tt c.requires.second))) (cast tt c.requires.speed))) (arg tt c.requires.third)))
    (subst (λ (z : ℤ). T (non_neg z)) (sym (horner_quadratic c.args.a c.args.b c.args.c c.args.v.0)) (yes_non_neg c.requires.whole))

pub returns : goal.returns
returns c =
    ap nat_abs
    ((back (add tt (back (mul tt (back (add tt (back (mul tt (arg tt c.requires.first) (cast tt c.requires.speed))) (arg tt c.requires.second))) (cast tt c.requires.speed))) (arg tt c.requires.third))).same ∙
    horner_quadratic c.args.a c.args.b c.args.c c.args.v.0)
