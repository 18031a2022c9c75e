-- A text in a lent buffer, and the text of a sheet, case by case. Assumes nothing.
use mathlib.Core.Path.{◌≡◌, refl, ap, ◌∙◌}
use mathlib.Core.Bool.{true, false}
use mathlib.Core.List.{List, ◌++◌}
use Prim.Native.Nat.{ℕ, ◌≤◌, ◌<◌}
use lib.Dec.{eqb}
use borrow.Rule.Slice.PartMut.{put_mid, mid_of}
use native.Mathlib.Omega.{arith}
use lib.ListN.{length, drop, set, length-append}
use borrow.Author.Tests.{lt-ltb, le-ltb}
use Rattle.units.specs.declared.Refusal.TheVariants.{ShortBuffer}
use Rattle.units.specs.Grounds.{first_fit}
use Rattle.units.specs.Refusals.{refusal_number}
use Rattle.text.specs.Render.{render}
use Rattle.text.proofs.Write.{length_render}
use Rattle.inventory.specs.declared.Run.{Run}
use Rattle.inventory.specs.Order.{in_order}
use Rattle.std.specs.Prelude.{Result, Ok, Err}
use Rattle.units.specs.declared.Refusal.{Refusal}
use Rattle.listing.specs.Report.{report_bytes, report_grounds, report_number, report_of, written, report_buffer, reported_answer}
use Rattle.report_lines.proofs.Stores.{Wrote, start, part, number, byte}
use Rattle.sheet.specs.Sheet.{sheet_number, sheet_line, sheet_run}
use Rattle.form.proofs.Form.{whole}
use Rattle.reporting.specs.Reporting.{text_number, text_line, refused_word, refused_line, sheet_text, text_grounds, answer_for, placed, text_of, text_buffer}

-- ---- a text in a buffer b

module _ (t b : List ℕ) where
  pub no_room : length b < length t → (reported_answer (Err ShortBuffer) ≡ answer_for t b) × (b ≡ placed t b)
  unfolding reported_answer refusal_number answer_for placed text_grounds first_fit
  no_room h = (rw (lt-ltb (length b) (length t) h), rw (lt-ltb (length b) (length t) h))

  pub room : (n : ℕ) (after : List ℕ) → length t ≤ length b → n ≡ length t → after ≡ t ++ drop (length t) b
      → (reported_answer (Ok n) ≡ answer_for t b) × (after ≡ placed t b)
  unfolding reported_answer answer_for placed written text_grounds first_fit
  room n after h e s = (rw (le-ltb (length b) (length t) h, e), rw (le-ltb (length b) (length t) h) s)

-- ---- the line of a refused sheet

pub refused_wrote : (n line : ℕ) (b word f g : List ℕ) → 17 ≤ length b → word ≡ refused_word → f ≡ render (length (mid_of 7 3 (put_mid 0 7 b word))) n
    → g ≡ render (length (mid_of 10 6 (put_mid 7 3 (put_mid 0 7 b word) f))) line
    → Wrote b (refused_line n line) 17 (set (put_mid 10 6 (put_mid 7 3 (put_mid 0 7 b word) f) g) 16 10)
unfolding refused_line
refused_wrote n line b word f g h e1 e2 e3 =
    let w1 = part refused_word 7 (start b) refl (omega arith) word e1 in
    let w2 = number 3 w1 (omega arith) n f e2 in
    let w3 = number 6 w2 (omega arith) line g e3 in
    byte 10 w3 (omega arith)

pub refused_length : (n line : ℕ) → length (refused_line n line) ≡ 17
unfolding refused_line
refused_length n line = simp (length-append, length_render) (omega arith)

-- ---- the text of a sheet

-- the run of a taken sheet is in order
taken_ordered : (bytes : List ℕ) → sheet_number bytes ≡ 0 → in_order (sheet_run bytes) ≡ true
taken_ordered bytes z = let f = whole.only bytes z in (whole.near bytes f.0 f.1 f.2).ordered

module _ (bytes : List ℕ) where
  pub long_number : 65536 < length bytes → text_number bytes ≡ 10
  unfolding text_number
  long_number h = rw (lt-ltb 65536 (length bytes) h)

  pub long_line : 65536 < length bytes → text_line bytes ≡ 1
  unfolding text_line
  long_line h = rw (lt-ltb 65536 (length bytes) h)

  pub own_number : length bytes ≤ 65536 → text_number bytes ≡ sheet_number bytes
  unfolding text_number
  own_number h = rw (le-ltb 65536 (length bytes) h)

  pub own_line : length bytes ≤ 65536 → text_line bytes ≡ sheet_line bytes
  unfolding text_line
  own_line h = rw (le-ltb 65536 (length bytes) h)

  pub refused_text : (n line : ℕ) → n ≡ text_number bytes → eqb n 0 ≡ false → line ≡ text_line bytes → refused_line n line ≡ sheet_text bytes
  unfolding sheet_text
  refused_text n line e z l = rw (← e, z, l)

  taken_text : text_number bytes ≡ 0 → report_bytes (sheet_run bytes) ≡ sheet_text bytes
  unfolding sheet_text
  taken_text e = rw e

-- the report of a run in order is a text in a buffer
report_answer : (run : Run) (b : List ℕ) → in_order run ≡ true → report_of run b ≡ answer_for (report_bytes run) b
unfolding report_of report_number report_grounds answer_for text_grounds first_fit
report_answer run b o = rw o

report_placed : (run : Run) (b : List ℕ) → in_order run ≡ true → report_buffer run b ≡ placed (report_bytes run) b
unfolding report_buffer report_number report_grounds placed written text_grounds first_fit
report_placed run b o = rw o

-- an answer for the right text
pub text_by : (t bytes b after : List ℕ) (r : Result ℕ Refusal) → t ≡ sheet_text bytes → reported_answer r ≡ answer_for t b → after ≡ placed t b
    → (reported_answer r ≡ text_of bytes b) × (after ≡ text_buffer bytes b)
unfolding text_of text_buffer
text_by t bytes b after r e a p = (a ∙ ap (λ (u : List ℕ). answer_for u b) e, p ∙ ap (λ (u : List ℕ). placed u b) e)

pub text_report : (bytes b after : List ℕ) (run : Run) (r : Result ℕ Refusal) → length bytes ≤ 65536 → sheet_number bytes ≡ 0 → run ≡ sheet_run bytes
    → reported_answer r ≡ report_of run b → after ≡ report_buffer run b → (reported_answer r ≡ text_of bytes b) × (after ≡ text_buffer bytes b)
text_report bytes b after run r h z e a p =
    let o = taken_ordered bytes z in
    text_by (report_bytes (sheet_run bytes)) bytes b after r (taken_text bytes (own_number bytes h ∙ z))
    (a ∙ ap (λ (u : Run). report_of u b) e ∙ report_answer (sheet_run bytes) b o) (p ∙ ap (λ (u : Run). report_buffer u b) e ∙ report_placed (sheet_run bytes) b o)
