-- `factors::curves_of` meets its contract: the code's constant is the table of specs/, and each class has its rows. Assumes nothing.
use native.Mathlib.Omega.{arith}
use Rattle.units.specs.Lists.{tab}
use Rattle.factors.specs.Factors.{coefficients, curves_of}
use Rattle.factors.proofs.Factors.{of_class}
use Rattle.factors.proofs.curves_of.Goals as goal

pub returns-in-1 : goal.returns-in-1
unfolding tab curves_of coefficients
returns-in-1 c = of_class c.args.class 1 (omega arith) c.curves_at.ensures

pub returns-in-2 : goal.returns-in-2
unfolding tab curves_of coefficients
returns-in-2 c = of_class c.args.class 2 (omega arith) c.curves_at-in-2.ensures

pub returns-in-3 : goal.returns-in-3
unfolding tab curves_of coefficients
returns-in-3 c = of_class c.args.class 3 (omega arith) c.curves_at-in-3.ensures

pub returns-in-4 : goal.returns-in-4
unfolding tab curves_of coefficients
returns-in-4 c = of_class c.args.class 4 (omega arith) c.curves_at-in-4.ensures

pub returns-in-6 : goal.returns-in-6
unfolding tab curves_of coefficients
returns-in-6 c = of_class c.args.class 6 (omega arith) c.curves_at-in-6.ensures

pub returns-in_default : goal.returns-in_default
unfolding tab curves_of coefficients
returns-in_default c = of_class c.args.class 7 (omega arith) c.curves_at-in_default.ensures
