-- The length of a text, and that its widths cut nothing, as one statement (SPECIFICATION, "Report").
-- Assumes nothing.
use Rattle.std.specs.Prelude.{ℕ, ◌≤◌, ◌≡◌, List, length}
use Rattle.text.specs.Render.{render, digits_value}
use Rattle.reporting.specs.Reporting.{number_width, line_width, text_number, text_line, sheet_text}

pub record TextClaim : Type 0 where
  -- no text is longer than 15 lines of 97 bytes
  pub text_most : (bytes : List ℕ) → length (sheet_text bytes) ≤ 1455
  -- the bytes of the number and of the line in the line REFUSED, read back, are the number and the line
  pub number_said : (bytes : List ℕ) → digits_value 0 (render number_width (text_number bytes)) ≡ text_number bytes
  pub line_said : (bytes : List ℕ) → digits_value 0 (render line_width (text_line bytes)) ≡ text_line bytes
