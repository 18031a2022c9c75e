-- The sums and totals of a run as amounts, by their places (SPECIFICATION, "The run").
-- Assumes nothing.
use Rattle.std.specs.Prelude.{ℕ, get_or, slice_set}
use Rattle.inventory.specs.declared.Run.{Run}
use Rattle.inventory.specs.declared.Amount.{Amount}
use Rattle.inventory.specs.Order.{rest_in, total_rest_in}

-- the sum j = fuel × 20 + quantity × 4 + kind
abbrev pub sum_amount : Run → ℕ → Amount
sum_amount run j = record { grams = get_or run.grams j (record { 0 = 0 }); rest = rest_in run j }

-- the stored total k = fuel × 5 + quantity
abbrev pub total_amount : Run → ℕ → Amount
total_amount run k = record { grams = get_or run.total_grams k (record { 0 = 0 }); rest = total_rest_in run k }

-- the run with another sum j
abbrev pub with_sum : Run → ℕ → Amount → Run
with_sum run j a = record run { grams = slice_set run.grams j a.grams; rests = slice_set run.rests j a.rest }

-- the run with another stored total k
abbrev pub with_total : Run → ℕ → Amount → Run
with_total run k a = record run { total_grams = slice_set run.total_grams k a.grams; total_rests = slice_set run.total_rests k a.rest }
