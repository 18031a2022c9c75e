-- `factors::two_stroke` meets its contract: the code's constant is the table of specs/. Assumes nothing.
use mathlib.Core.Path.{refl}
use Rattle.factors.specs.Factors.{two_stroke}
use Rattle.factors.proofs.two_stroke.Goals as goal

pub returns : goal.returns
unfolding two_stroke
returns c = refl
