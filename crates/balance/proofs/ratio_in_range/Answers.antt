-- `balance::ratio_in_range` meets its contract. Assumes nothing.
use mathlib.Core.Path.{sym, ◌∙◌}
use mathlib.Core.Bool.{true, false}
use Rattle.balance.proofs.Answers.{far, tested}
use Rattle.balance.proofs.ratio_in_range.Goals as goal

pub returns-then-f-s : goal.returns-then-f-s
returns-then-f-s c = far _ _ c.requires.1.0 c.if-f-s.true

pub returns-then-is_outside : goal.returns-then-is_outside
returns-then-is_outside c = tested _ _ _ true c.ratio_of-r.ensures (sym c.is_outside.ensures ∙ c.if-is_outside.true)

pub returns : goal.returns
returns c = tested _ _ _ false c.ratio_of-r.ensures (sym c.is_outside.ensures ∙ c.if-is_outside.false)
