-- What is printed for a sheet (SPECIFICATION, "Sheet" and "Report"): the report, or one line for a refused sheet.
-- Assumes nothing.
use Rattle.std.specs.Prelude.{ℕ, cond, List, [], ◌∷◌, ◌++◌, eqb, ltb, length, ⊤, Result, Ok, Err}
use Rattle.units.specs.Grounds.{Ground, ground, first_fit}
use Rattle.units.specs.Refusals.{refusal_number}
use Rattle.text.specs.Render.{render}
use Rattle.listing.specs.Report.{report_bytes, ReportAnswer, written}
use Rattle.sheet.specs.declared.BadLine.{BadLine}
use Rattle.sheet.specs.Sheet.{sheet_number, sheet_line, sheet_run}

-- the number and the line of a sheet's answer, both 0 where it is taken
abbrev pub bad_number : Result ⊤ BadLine → ℕ
bad_number (Ok taken) = 0
bad_number (Err bad) = refusal_number bad.reason

abbrev pub bad_line : Result ⊤ BadLine → ℕ
bad_line (Ok taken) = 0
bad_line (Err bad) = bad.line

-- the number of a text: more than 65,536 bytes are a shape fault, else the sheet's own, 0 where it is taken
unfoldable pub text_number : List ℕ → ℕ
text_number bytes = cond (ltb 65536 (length bytes)) 10 (sheet_number bytes)

-- its line: 1 for more than 65,536 bytes, else the sheet's own, 0 where it is taken
unfoldable pub text_line : List ℕ → ℕ
text_line bytes = cond (ltb 65536 (length bytes)) 1 (sheet_line bytes)

-- the word REFUSED
abbrev pub refused_word : List ℕ
refused_word = 82 ∷ 69 ∷ 70 ∷ 85 ∷ 83 ∷ 69 ∷ 68 ∷ []

-- the widths of a refused sheet's number and line
abbrev pub number_width : ℕ
number_width = 3

abbrev pub line_width : ℕ
line_width = 6

-- the line of a refused sheet: REFUSED, the number (3) and its line (6), LF
unfoldable pub refused_line : ℕ → ℕ → List ℕ
refused_line number line = refused_word ++ render number_width number ++ render line_width line ++ (10 ∷ [])

-- the text for a sheet: its report where it is taken, else the line of its refusal
unfoldable pub sheet_text : List ℕ → List ℕ
sheet_text bytes = cond (eqb (text_number bytes) 0) (report_bytes (sheet_run bytes)) (refused_line (text_number bytes) (text_line bytes))

-- the one ground: the lent buffer is shorter than the text
unfoldable pub text_grounds : List ℕ → List ℕ → List Ground
text_grounds text buffer = ground 14 (ltb (length buffer) (length text)) ∷ []

-- a text in a lent buffer: the number and the length, 0 where there is no room
unfoldable pub answer_for : List ℕ → List ℕ → ReportAnswer
answer_for text buffer =
    record { number = first_fit (text_grounds text buffer); bytes = cond (eqb (first_fit (text_grounds text buffer)) 0) (length text) 0 }

-- the buffer after it: the text in it, or as it was where there is no room
unfoldable pub placed : List ℕ → List ℕ → List ℕ
placed text buffer = cond (eqb (first_fit (text_grounds text buffer)) 0) (written text buffer) buffer

-- the answer for a sheet, and the buffer after it
unfoldable pub text_of : List ℕ → List ℕ → ReportAnswer
text_of bytes buffer = answer_for (sheet_text bytes) buffer

unfoldable pub text_buffer : List ℕ → List ℕ → List ℕ
text_buffer bytes buffer = placed (sheet_text bytes) buffer
