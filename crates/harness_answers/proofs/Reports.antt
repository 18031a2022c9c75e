-- The answer of a report as two numbers. Assumes nothing.
use Rattle.std.proofs.Common.{◌≡◌, ℕ, ◌≤◌, [], ◌∷◌, Result, Ok, Err, take, replicate, refl, arith}
use Rattle.std.proofs.lemmas.List.{take-replicate}
use Rattle.std.proofs.lemmas.Bool.Decides.{nat_tests}
use Rattle.inventory.specs.declared.Run.{Run}
use Rattle.units.specs.declared.Refusal.{Refusal}
use Rattle.units.specs.Refusals.{answer_number}
use Rattle.listing.specs.Report.{reported_answer}
use Rattle.harness_prints.specs.Prints.{numbers_text}
use Rattle.harness_answers.specs.Answers.{answer_text, reported_text, report_text, dots_text}

pub answer_reported : (r : Result ℕ Refusal) → answer_text (λ n. numbers_text (n ∷ [])) (numbers_text (0 ∷ [])) r ≡ reported_text (reported_answer r)
unfolding reported_answer answer_number
answer_reported (Ok n) = refl
answer_reported (Err r) = refl

pub dots_within : (run : Run) (size : ℕ) → size ≤ 1600 → dots_text run size ≡ report_text run (take size (replicate 1600 46))
dots_within run size h = rw (take-replicate {X = ℕ} size 1600 46 h) (grind (arith, nat_tests))
