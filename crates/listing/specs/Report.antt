-- The report (SPECIFICATION, "Report").
-- Assumes nothing.
use Rattle.std.specs.Prelude.{ℕ, zero, suc, ◌+◌, not, cond, List, [], ◌∷◌, ◌++◌, eqb, ltb, length, drop, Result, Ok, Err}
use Rattle.units.specs.Grounds.{Ground, ground, first_fit}
use Rattle.units.specs.Refusals.{refusal_number}
use Rattle.units.specs.declared.Refusal.{Refusal}
use Rattle.inventory.specs.declared.Run.{Run}
use Rattle.inventory.specs.Order.{in_order}
use Rattle.figures.specs.declared.Figures.{Figures}
use Rattle.figures.specs.Table.{figures, row_in}
use Rattle.report_lines.specs.Line.{line_at}

-- n lines from line k on
unfoldable pub lines_from : Figures → ℕ → ℕ → List ℕ
lines_from f zero k = []
lines_from f (suc n) k = line_at k (row_in f k) ++ lines_from f n (k + 1)

-- the lines of all rows: by fuel, then quantity
unfoldable pub lines_of : Figures → List ℕ
lines_of f = lines_from f 15 0

-- the bytes of the report
unfoldable pub report_bytes : Run → List ℕ
report_bytes run = lines_of (figures run)

-- the grounds of a report, in their order
unfoldable pub report_grounds : Run → List ℕ → List Ground
report_grounds run buffer = ground 16 (not (in_order run)) ∷ ground 14 (ltb (length buffer) (length (report_bytes run))) ∷ []

-- an answer: its number, 0 where the report is written, and its length in bytes, 0 where it is refused
pub record ReportAnswer : Type 0 where
  pub number : ℕ
  pub bytes : ℕ

-- the number and the length of each case
unfoldable pub reported_answer : Result ℕ Refusal → ReportAnswer
reported_answer (Ok n) = record { number = 0; bytes = n }
reported_answer (Err r) = record { number = refusal_number r; bytes = 0 }

unfoldable pub report_number : Run → List ℕ → ℕ
report_number run buffer = first_fit (report_grounds run buffer)

unfoldable pub report_of : Run → List ℕ → ReportAnswer
report_of run buffer =
    record { number = report_number run buffer; bytes = cond (eqb (report_number run buffer) 0) (length (report_bytes run)) 0 }

-- a text at the front of a buffer, and behind it what was there
unfoldable pub written : List ℕ → List ℕ → List ℕ
written text buffer = text ++ drop (length text) buffer

-- the buffer after it: the report in it, or as it was where the report is refused
unfoldable pub report_buffer : Run → List ℕ → List ℕ
report_buffer run buffer = cond (eqb (report_number run buffer) 0) (written (report_bytes run) buffer) buffer
