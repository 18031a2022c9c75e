-- Answers about texts as they cross to C: a number and the values (SPECIFICATION, "C interface").
-- Assumes nothing.
use Rattle.std.specs.Prelude.{ℕ, List}
use Rattle.listing.specs.Report.{ReportAnswer, reported_answer}
use Rattle.reporting.specs.declared.SheetText.{SheetText}
use Rattle.reporting.specs.Reporting.{text_number, text_line, text_of, bad_number, bad_line}
use Rattle.capi_texts.specs.declared.LengthAnswer.{LengthAnswer}
use Rattle.capi_texts.specs.declared.TextAnswer.{TextAnswer}

abbrev pub length_answer : ReportAnswer → LengthAnswer
length_answer a = record { number = a.number; bytes = a.bytes }

-- the text of a sheet in a buffer, and the sheet's own number and line
abbrev pub text_answer : List ℕ → List ℕ → TextAnswer
text_answer bytes buffer =
    record { number = (text_of bytes buffer).number; bytes = (text_of bytes buffer).bytes; sheet = text_number bytes; line = text_line bytes }

-- the same from what a report of a sheet gives
abbrev pub sheet_text_answer : SheetText → TextAnswer
sheet_text_answer a =
    record {
      number = (reported_answer a.text).number;
      bytes = (reported_answer a.text).bytes;
      sheet = bad_number a.sheet;
      line = bad_line a.sheet;
    }
