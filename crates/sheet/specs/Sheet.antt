-- What a sheet gives (SPECIFICATION, "Sheet" and "Refusals").
-- Assumes nothing.
use Rattle.std.specs.Prelude.{ℕ, ◌+◌, cond, List, [], ◌∷◌, eqb, Option, Some, None, Result, Ok, Err}
use Rattle.units.specs.Refusals.{refusal_number}
use Rattle.inventory.specs.declared.Head.{Head}
use Rattle.inventory.specs.declared.Record.{Record}
use Rattle.inventory.specs.declared.Run.{Run}
use Rattle.inventory.specs.Opening.{zero_run, open_number, open_run}
use Rattle.inventory.specs.Adding.{add_number, add_run}
use Rattle.lines.specs.Lines.{lines}
use Rattle.lines.specs.Records.{head_of, record_of}
use Rattle.sheet.specs.declared.BadLine.{BadLine}

-- the number of a sheet, 0 where it is taken; its line, 0 where it is taken; its run
pub record Outcome : Type 0 where
  pub number : ℕ
  pub line : ℕ
  pub run : Run

abbrev pub refused_at : ℕ → ℕ → Outcome
refused_at number line = record { number = number; line = line; run = zero_run }

-- the first bad line decides: what comes of the lines from line n on, of which the first has this number
unfoldable pub decided : ℕ → ℕ → Outcome → Outcome
decided number n rest = cond (eqb number 0) rest (refused_at number n)

-- in a record line 10, then 3 to 9
abbrev pub line_number : Run → Option Record → ℕ
line_number run None = 10
line_number run (Some rec) = add_number run rec

abbrev pub line_run : Run → Option Record → Run
line_run run None = run
line_run run (Some rec) = add_run run rec

-- the record lines from line n on
unfoldable pub from_records : Run → ℕ → List (List ℕ) → Outcome
from_records run n [] = record { number = 0; line = 0; run = run }
from_records run n (l ∷ ls) = decided (line_number run (record_of l)) n (from_records (line_run run (record_of l)) (n + 1) ls)

-- in the head line 10, then 1, 2, 19, 20
abbrev pub head_number : Option Head → ℕ
head_number None = 10
head_number (Some head) = open_number head

abbrev pub head_run : Option Head → Run
head_run None = zero_run
head_run (Some head) = open_run head

-- a sheet without lines is of wrong shape; a head alone is a full sheet
unfoldable pub from_head : List (List ℕ) → Outcome
from_head [] = refused_at 10 1
from_head (l ∷ ls) = decided (head_number (head_of l)) 1 (from_records (head_run (head_of l)) 2 ls)

unfoldable pub sheet_of : List ℕ → Outcome
sheet_of bytes = from_head (lines bytes)

-- the outcome of an answer
abbrev pub read_outcome : Result Run BadLine → Outcome
read_outcome (Ok run) = record { number = 0; line = 0; run = run }
read_outcome (Err bad) = refused_at (refusal_number bad.reason) bad.line

abbrev pub sheet_number : List ℕ → ℕ
sheet_number bytes = (sheet_of bytes).number

abbrev pub sheet_line : List ℕ → ℕ
sheet_line bytes = (sheet_of bytes).line

abbrev pub sheet_run : List ℕ → Run
sheet_run bytes = (sheet_of bytes).run
