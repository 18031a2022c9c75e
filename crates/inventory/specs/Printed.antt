-- Printed kinds and totals (SPECIFICATION, "The run").
-- Assumes nothing.
use Rattle.std.specs.Prelude.{ℕ, ◌-◌, not, cond, List, [], ◌∷◌, eqb, Result, Ok, Err}
use Rattle.units.specs.Grounds.{Ground, ground, first_fit, outside}
use Rattle.units.specs.Rounding.{half_up}
use Rattle.units.specs.Refusals.{refusal_number}
use Rattle.units.specs.declared.Grams.{Grams}
use Rattle.units.specs.declared.Refusal.{Refusal}
use Rattle.inventory.specs.declared.Run.{Run}
use Rattle.inventory.specs.declared.Kind.{Kind}
use Rattle.inventory.specs.declared.Kind.TheVariants.{Urban, Rural, Highway, Cold}
use Rattle.inventory.specs.Order.{in_order, sum_at, place, exact_total}

-- the place of a kind among the four
abbrev pub kind_place : Kind → ℕ
kind_place Urban = 0
kind_place Rural = 1
kind_place Highway = 2
kind_place Cold = 3

-- a printed kind: its sum, half up to grams; fuel and quantity count from 0 here
unfoldable pub printed_kind : Run → ℕ → ℕ → ℕ → ℕ
printed_kind run fuel quantity kind = half_up (sum_at run (place fuel quantity kind)) 1000000000

-- a printed total: the exact sum of its four kinds, half up to grams
unfoldable pub printed_total : Run → ℕ → ℕ → ℕ
printed_total run fuel quantity = half_up (exact_total run fuel quantity) 1000000000

-- the grounds of a question, in their order; fuel and quantity as callers number them, from 1
unfoldable pub total_grounds : Run → ℕ → ℕ → List Ground
total_grounds run fuel quantity =
    ground 16 (not (in_order run)) ∷ ground 11 (outside 1 3 fuel) ∷ ground 11 (outside 1 5 quantity) ∷ []

-- an answer as its number, 0 where it is given, and its grams, 0 where it is refused
pub record Answer : Type 0 where
  pub number : ℕ
  pub grams : ℕ

unfoldable pub answered : ℕ → ℕ → Answer
answered number grams = record { number = number; grams = cond (eqb number 0) grams 0 }

-- the number and the grams of each case of a printed kind or total
unfoldable pub printed_answer : Result Grams Refusal → Answer
printed_answer (Ok g) = record { number = 0; grams = g.0 }
printed_answer (Err r) = record { number = refusal_number r; grams = 0 }

-- the answer to a question for a total, and for one kind
unfoldable pub total_of : Run → ℕ → ℕ → Answer
total_of run fuel quantity = answered (first_fit (total_grounds run fuel quantity)) (printed_total run (fuel - 1) (quantity - 1))

unfoldable pub kind_of : Run → ℕ → ℕ → Kind → Answer
kind_of run fuel quantity kind =
    answered (first_fit (total_grounds run fuel quantity)) (printed_kind run (fuel - 1) (quantity - 1) (kind_place kind))
