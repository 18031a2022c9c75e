-- What the test programs print of an answer.
-- Assumes nothing.
use Rattle.std.specs.Prelude.{ℕ, List, [], ◌∷◌, ◌++◌, Option, Some, None, Result, Ok, Err, cond, nat_le, replicate}
use Rattle.std.specs.Float.{Float}
use Rattle.units.specs.declared.Refusal.{Refusal}
use Rattle.units.specs.Refusals.{answer_number}
use Rattle.inventory.specs.declared.Run.{Run}
use Rattle.listing.specs.Report.{ReportAnswer, report_of, report_buffer}
use Rattle.map.specs.declared.Row.{Row}
use Rattle.harness_prints.specs.Prints.{numbers_text, float_text}

-- what is printed of what is given, or of a refusal
abbrev pub value_text : {A : Type 0} → (A → List ℕ) → List ℕ → Result A Refusal → List ℕ
value_text given refused (Ok x) = given x
value_text given refused (Err r) = refused

-- the number of an answer, and that behind it
abbrev pub answer_text : {A : Type 0} → (A → List ℕ) → List ℕ → Result A Refusal → List ℕ
answer_text given refused answer = numbers_text (answer_number answer ∷ []) ++ value_text given refused answer

-- the four floats of a row
abbrev pub row_text : Row → List ℕ
row_text row = float_text row.urban ++ float_text row.rural ++ float_text row.highway ++ float_text row.cold

-- a float, or ` not given`
abbrev pub figure_text : Option Float → List ℕ
figure_text (Some x) = float_text x
figure_text None = 32 ∷ 110 ∷ 111 ∷ 116 ∷ 32 ∷ 103 ∷ 105 ∷ 118 ∷ 101 ∷ 110 ∷ []

-- the number and the bytes of the answer of a report
abbrev pub reported_text : ReportAnswer → List ℕ
reported_text answer = numbers_text (answer.number ∷ []) ++ numbers_text (answer.bytes ∷ [])

-- the answer of a report into a buffer, a line end, and the buffer afterwards
unfoldable pub report_text : Run → List ℕ → List ℕ
report_text run buffer = (reported_text (report_of run buffer) ++ (10 ∷ [])) ++ report_buffer run buffer

-- the same of so many dots, 1,600 at most; nothing of more
abbrev pub dots_text : Run → ℕ → List ℕ
dots_text run size = cond (nat_le size 1600) (report_text run (replicate size 46)) []
