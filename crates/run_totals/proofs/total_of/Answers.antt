-- `run_totals::total_of` meets its contract. Assumes nothing.
use native.Mathlib.Omega.{arith}
use Rattle.run_totals.proofs.Totals.{amount_at, three_in_one}
use Rattle.run_totals.proofs.total_of.Goals as goal

pub both-requires-3 : goal.both-requires-3
both-requires-3 c = (amount_at _ _ (three_in_one _ _ _ _ c.both.ensures c.both-2.ensures) (omega arith), record { grams = omega arith; rest = omega arith })
