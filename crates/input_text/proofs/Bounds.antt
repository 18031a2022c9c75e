-- No text is longer than 1,455 bytes, and the widths of the line REFUSED cut no number and no line. Assumes nothing.
use Prim.Native.Nat.{ℕ, suc, ◌+◌, ◌≤◌}
use mathlib.Core.Path.{◌≡◌, refl, ap, ◌∙◌}
use mathlib.Core.Bool.{Bool, true, false, cond, ◌&&◌}
use mathlib.Core.List.{List, [], ◌∷◌}
use Rattle.std.specs.Prelude.{Option, None, Some, Result, Ok, Err}
use Rattle.std.specs.Result.{result_unwrap_or}
use native.Mathlib.Omega.{arith}
use lib.Dec.{leb, ltb, eqb}
use lib.ListN.{length, drop, length-append}
use borrow.Author.Tests.{ltb-false, leb-true, le-ltb}
use Rattle.units.specs.declared.Refusal.{Refusal}
use Rattle.units.specs.Grounds.{Ground, first_fit}
use Rattle.units.proofs.Tests.{and_left, and_right}
use Rattle.text.proofs.Value.{read_back}
use Rattle.calendar.specs.Periods.{period_grounds}
use Rattle.inventory.specs.declared.Head.{Head}
use Rattle.inventory.specs.declared.Record.{Record}
use Rattle.inventory.specs.declared.Run.{Run}
use Rattle.inventory.specs.Records.{head_grounds, record_grounds}
use Rattle.inventory.specs.Opening.{open_number}
use Rattle.inventory.specs.Adding.{add_grounds, add_number}
use Rattle.listing.specs.Report.{report_bytes, ReportAnswer, reported_answer, written}
use Rattle.listing.proofs.Report.{report_most}
use Rattle.lines.specs.Lines.{glue, lines}
use Rattle.lines.specs.Records.{record_of, head_of}
use Rattle.sheet.specs.Sheet.{Outcome, refused_at, decided, line_number, line_run, from_records, head_number, head_run, from_head, sheet_of, sheet_number, sheet_line, sheet_run}
use Rattle.reporting.specs.Reporting.{text_number, text_line, refused_line, sheet_text, text_grounds, answer_for, placed, text_of, text_buffer}
use Rattle.input_text.specs.Claim.{TextClaim}
use Rattle.reporting.proofs.Texts.{refused_length}

-- ---- the numbers of grounds

numbers_to : ℕ → List Ground → Bool
numbers_to m [] = true
numbers_to m (g ∷ gs) = leb g.number m && numbers_to m gs

pick_most : (b : Bool) (k n m : ℕ) → k ≤ m → n ≤ m → cond b k n ≤ m
pick_most true k n m h l = h
pick_most false k n m h l = l

fit_most : (m : ℕ) (gs : List Ground) → numbers_to m gs ≡ true → first_fit gs ≤ m
unfolding first_fit numbers_to
fit_most m [] t = omega arith
fit_most m (g ∷ gs) t =
    pick_most g.fits g.number (first_fit gs) m (leb-true g.number m (and_left (leb g.number m) (numbers_to m gs) t))
    (fit_most m gs (and_right (leb g.number m) (numbers_to m gs) t))

open-most : (head : Head) → open_number head ≤ 20
unfolding open_number head_grounds period_grounds numbers_to
open-most head = fit_most 20 (head_grounds head) refl

add_most : (run : Run) (rec : Record) → add_number run rec ≤ 20
unfolding add_number add_grounds record_grounds numbers_to
add_most run rec = fit_most 20 (add_grounds run rec) refl

-- ---- the number and the line of a sheet

record Small (m : ℕ) (o : Outcome) : Type 0 where
  number : o.number ≤ 20
  line : o.line ≤ m

picked : (m n k : ℕ) (rest : Outcome) (b : Bool) → k ≤ 20 → n ≤ m → Small m rest → Small m (cond b rest (refused_at k n))
picked m n k rest true h l s = s
picked m n k rest false h l s = record { number = h; line = l }

decided_small : (m n k : ℕ) (rest : Outcome) → k ≤ 20 → n ≤ m → Small m rest → Small m (decided k n rest)
unfolding decided
decided_small m n k rest h l s = picked m n k rest (eqb k 0) h l s

line_number_most : (run : Run) (rec : Option Record) → line_number run rec ≤ 20
line_number_most run None = omega arith
line_number_most run (Some rec) = add_most run rec

head_number_most : (head : Option Head) → head_number head ≤ 20
head_number_most None = omega arith
head_number_most (Some head) = open-most head

records_small : (run : Run) (n : ℕ) (ls : List (List ℕ)) (m : ℕ) → n + length ls ≤ m → Small m (from_records run n ls)
unfolding from_records
records_small run n [] m h = record { number = omega arith; line = omega arith }
records_small run n (l ∷ ls) m h =
    decided_small m n (line_number run (record_of l)) _ (line_number_most run (record_of l)) (omega arith)
    (records_small (line_run run (record_of l)) (n + 1) ls m (omega arith))

lines_small : (ls : List (List ℕ)) (m : ℕ) → 1 + length ls ≤ m → Small m (from_head ls)
unfolding from_head
lines_small [] m h = record { number = omega arith; line = omega arith }
lines_small (l ∷ ls) m h =
    decided_small m 1 (head_number (head_of l)) _ (head_number_most (head_of l)) (omega arith)
    (records_small (head_run (head_of l)) 2 ls m (omega arith))

glue_few : (b : ℕ) (e : Bool) (ls : List (List ℕ)) (n : ℕ) → length ls ≤ n → length (glue b e ls) ≤ suc n
glue_few b true ls n h = omega arith
glue_few b false [] n h = omega arith
glue_few b false (l ∷ ls) n h = omega arith

-- bytes have at most as many lines
lines_few : (bytes : List ℕ) → length (lines bytes) ≤ length bytes
unfolding lines
lines_few [] = omega arith
lines_few (b ∷ bs) = glue_few b (eqb b 10) (lines bs) (length bs) (lines_few bs)

sheet_small : (bytes : List ℕ) → Small (1 + length bytes) (sheet_of bytes)
unfolding sheet_of
sheet_small bytes = let h = lines_few bytes in lines_small (lines bytes) (1 + length bytes) (omega arith)

-- ---- the number, the line and the length of a text

number_most : (bytes : List ℕ) → text_number bytes ≤ 20
unfolding text_number
number_most bytes = pick_most (ltb 65536 (length bytes)) 10 (sheet_number bytes) 20 (omega arith) (sheet_small bytes).number

line_by : (bytes : List ℕ) (b : Bool) → ltb 65536 (length bytes) ≡ b → cond b 1 (sheet_line bytes) ≤ 65537
line_by bytes true e = omega arith
line_by bytes false e = let h = ltb-false 65536 (length bytes) e in let l = (sheet_small bytes).line in omega arith

line_most : (bytes : List ℕ) → text_line bytes ≤ 65537
unfolding text_line
line_most bytes = line_by bytes (ltb 65536 (length bytes)) refl

length_by : (b : Bool) (run : Run) (n line : ℕ) → length (cond b (report_bytes run) (refused_line n line)) ≤ 1455
length_by true run n line = report_most run
length_by false run n line = let e = refused_length n line in omega arith

length_most : (bytes : List ℕ) → length (sheet_text bytes) ≤ 1455
unfolding sheet_text
length_most bytes = length_by (eqb (text_number bytes) 0) (sheet_run bytes) (text_number bytes) (text_line bytes)

pub texts : TextClaim
texts =
    record {
      text_most = λ bytes. omega (arith, length_most bytes);
      number_said = λ bytes. read_back _ _ (omega (arith, number_most bytes));
      line_said = λ bytes. read_back _ _ (omega (arith, line_most bytes));
    }

-- ---- a text in 1,455 bytes

unwrapped : (r : Result ℕ Refusal) → result_unwrap_or r 0 ≡ (reported_answer r).bytes
unfolding reported_answer
unwrapped (Ok n) = refl
unwrapped (Err e) = refl

module _ (bytes b after : List ℕ) (r : Result ℕ Refusal) (h : length b ≡ 1455) (a : reported_answer r ≡ text_of bytes b) (p : after ≡ text_buffer bytes b) where
  room : first_fit (text_grounds (sheet_text bytes) b) ≡ 0
  unfolding first_fit text_grounds
  room = let m = length_most bytes in rw (le-ltb (length b) (length (sheet_text bytes)) (omega arith))

  bytes_are : (reported_answer r).bytes ≡ length (sheet_text bytes)
  unfolding text_of answer_for
  bytes_are = ap (λ (x : ReportAnswer). x.bytes) a ∙ rw room

  after_is : after ≡ written (sheet_text bytes) b
  unfolding text_buffer placed
  after_is = p ∙ rw room

  pub fits : (n : ℕ) → n ≡ result_unwrap_or r 0 → (n ≡ length (sheet_text bytes)) × ((n ≤ 1455) × (after ≡ written (sheet_text bytes) b))
  fits n e =
      let l = e ∙ unwrapped r ∙ bytes_are in
      let m = length_most bytes in
      (l, (omega arith, after_is))

-- ---- a text lies within the buffer that it is written to

pub within : (n : ℕ) (t b after : List ℕ) → n ≡ length t → after ≡ written t b → n ≤ length after
unfolding written
within n t b after l e = omega (arith, ap length e, length-append t (drop (length t) b))
