-- One line of a sheet after the other. Assumes nothing.
use Prim.Native.Nat.{ℕ, min, ◌+◌, ◌≤◌, ◌<◌}
use mathlib.Core.Path.{◌≡◌, refl, sym, ap, ◌∙◌}
use mathlib.Core.Bool.{Bool, true, false}
use mathlib.Core.List.{List, [], ◌∷◌, ◌++◌, append-nil}
use native.Mathlib.Omega.{arith}
use lib.Dec.{eqb, ltb}
use lib.IntN.{ℤ}
use lib.ListN.{length, length-append, take, drop, drop_of_length-le}
use lib.Seq.{take_at, drop_at, take_all}
use borrow.Author.Tests.{ltb-true, ltb-false}
use Rattle.std.proofs.lemmas.List.{nil_from_length}
use Rattle.std.specs.Prelude.{Option, None, Some, option_map, option_and_then, Result, Err}
use Rattle.std.specs.Option.{ok_or}
use Rattle.inventory.specs.declared.Head.{Head}
use Rattle.inventory.specs.declared.Record.{Record}
use Rattle.inventory.specs.declared.Run.{Run}
use Rattle.inventory.specs.Opening.{open_number, open_run}
use Rattle.lines.specs.declared.HeadLine.{HeadLine}
use Rattle.lines.specs.Lines.{lines, first_of, head_widths, record_widths, total, shaped, numbers_of}
use Rattle.lines.specs.Records.{counts_of, head_of, record_with, record_of}
use Rattle.lines.specs.Reading.{head_line}
use Rattle.lines.proofs.Lines.{line_length, then_back, first_line_lem, short, first_length, numbers_back, ends, chunk_numbers}
use Rattle.sheet.specs.Sheet.{refused_at, decided, line_number, line_run, from_records, head_number, head_run, from_head, sheet_of}

-- ---- a record line, and what stands behind it

module _ (l : List ℕ) where
  abbrev first : List ℕ
  first = take (line_length l) l

  same_record : record_of (take 41 l) ≡ record_of first
  unfolding record_of total record_widths
  same_record =
      ap (λ (o : Option (List ℤ)). option_and_then (λ ns. Some (record_with ns)) (option_and_then counts_of o)) (chunk_numbers record_widths l)

  its_length : (rec : Record) → record_of first ≡ Some rec → line_length l ≡ 41
  unfolding record_of total record_widths
  its_length rec e =
      let ns = then_back (option_and_then counts_of (numbers_of record_widths first)) (λ ns. Some (record_with ns)) rec e in
      let zs = then_back (numbers_of record_widths first) counts_of ns.0 ns.1 in
      ends record_widths l (numbers_back record_widths first zs.0 zs.1).0

  module _ (chunk rest : List ℕ) (parts : l ≡ chunk ++ rest) (size : length chunk ≡ min 41 (length l)) (some : 0 < length l) (run : Run) (n : ℕ) where
    cut : (chunk ≡ take 41 l) × (rest ≡ drop 41 l)
    cut = by (ltb (length l) 41) refl
      where
        by : (b : Bool) → ltb (length l) 41 ≡ b → (chunk ≡ take 41 l) × (rest ≡ drop 41 l)
        by true e =
            let h = ltb-true _ _ e in
            let none : rest ≡ [] = nil_from_length rest (omega (arith, ap length parts, length-append chunk rest)) in
            (sym (take_all 41 l (omega arith) ∙ parts ∙ ap (λ (r : List ℕ). chunk ++ r) none ∙ append-nil chunk), none ∙ sym (drop_of_length-le l {i = 41} (omega arith)))
        by false e =
            let h = ltb-false _ _ e in
            let long : length chunk ≡ 41 = omega arith in
            (sym (ap (take 41) parts ∙ take_at chunk rest 41 long), sym (ap (drop 41) parts ∙ drop_at chunk rest 41 long))

    chunk_is : record_of chunk ≡ record_of first
    chunk_is = ap record_of cut.0 ∙ same_record

    step : from_records run n (lines l) ≡ decided (line_number run (record_of first)) n (from_records (line_run run (record_of first)) (n + 1) (lines (drop (line_length l) l)))
    unfolding from_records
    step = rw (first_line_lem l some)

    pub line_refused : (m : ℕ) → m ≡ line_number run (record_of chunk) → eqb m 0 ≡ false → refused_at m n ≡ from_records run n (lines l)
    unfolding decided
    line_refused m e h = rw (step, ← chunk_is, ← e, h)

    behind : (o : Option Record) → record_of first ≡ o → line_number run o ≡ 0 → drop (line_length l) l ≡ rest
    behind None e z = absurd (omega arith)
    behind (Some rec) e z = rw (its_length rec e) (sym cut.1)

    pub line_taken : line_number run (record_of chunk) ≡ 0 → from_records (line_run run (record_of chunk)) (n + 1) (lines rest) ≡ from_records run n (lines l)
    unfolding decided
    line_taken z =
        let y : line_number run (record_of first) ≡ 0 = rw chunk_is at z in
        rw (step, y, behind (record_of first) refl y, ← chunk_is)

pub no_lines : (run : Run) (n : ℕ) (l : List ℕ) → length l ≡ 0 → from_records run n (lines l) ≡ record { number = 0; line = 0; run = run }
unfolding from_records lines
no_lines run n [] e = refl
no_lines run n (b ∷ bs) e = absurd (omega arith)

-- ---- the head line

-- the empty sheet has none
empty_sheet : sheet_of [] ≡ decided (head_number (head_of (first_of (lines [])))) 1 (from_records (head_run (head_of (first_of (lines [])))) 2 (lines (drop (length (first_of (lines []))) [])))
unfolding sheet_of from_head lines decided head_of numbers_of shaped head_widths total
empty_sheet = refl

some_sheet : (s : List ℕ) → 0 < length s → sheet_of s
    ≡ decided (head_number (head_of (first_of (lines s)))) 1 (from_records (head_run (head_of (first_of (lines s)))) 2 (lines (drop (line_length s) s)))
unfolding sheet_of from_head
some_sheet s h = rw (first_line_lem s h)

module _ (s : List ℕ) where
  -- the first line, and what comes behind it
  by_first : sheet_of s
      ≡ decided (head_number (head_of (first_of (lines s)))) 1 (from_records (head_run (head_of (first_of (lines s)))) 2 (lines (drop (length (first_of (lines s))) s)))
  by_first = by s refl
    where
      by : (l : List ℕ) → s ≡ l → sheet_of l
          ≡ decided (head_number (head_of (first_of (lines l)))) 1 (from_records (head_run (head_of (first_of (lines l)))) 2 (lines (drop (length (first_of (lines l))) l)))
      by [] e = empty_sheet
      by (b ∷ bs) e = rw (first_length (b ∷ bs)) (some_sheet (b ∷ bs) (omega arith))

  -- what `head_line` gives
  abbrev given : Option HeadLine → Type 0
  given r = r ≡ option_map (head_line (length (first_of (lines s)))) (head_of (first_of (lines s)))

  none_by : (o : Option Head) (n : ℕ) → None ≡ option_map (head_line n) o → o ≡ None
  none_by None n e = refl
  none_by (Some head) n e = cc

  pub head_misread : given None → refused_at 10 1 ≡ sheet_of s
  unfolding decided
  head_misread e = let none = none_by (head_of (first_of (lines s))) _ e in sym (by_first ∙ rw none)

  some_by : (o : Option Head) (r : HeadLine) (n : ℕ) → Some r ≡ option_map (head_line n) o → (o ≡ Some r.head) × (r.size ≡ n)
  some_by None r n e = cc
  some_by (Some head) r n e = let same : r ≡ head_line n head = cc in rw same (refl, refl)

  module _ (r : HeadLine) (e : given (Some r)) where
    pub first_most : r.size ≤ length s
    first_most = rw ((some_by (head_of (first_of (lines s))) r _ e).1, first_length s) (short s)

    head_read : sheet_of s ≡ decided (open_number r.head) 1 (from_records (open_run r.head) 2 (lines (drop r.size s)))
    head_read = let p = some_by (head_of (first_of (lines s))) r _ e in by_first ∙ rw (p.0, p.1)

    pub head_refused : (m : ℕ) → m ≡ open_number r.head → eqb m 0 ≡ false → refused_at m 1 ≡ sheet_of s
    unfolding decided
    head_refused m h z = sym (head_read ∙ rw (← h, z))

    pub head_taken : open_number r.head ≡ 0 → from_records (open_run r.head) 2 (lines (drop r.size s)) ≡ sheet_of s
    unfolding decided
    head_taken h = sym (head_read ∙ rw h)

-- ---- what `?` met

-- there is no value, and the error is the one given
pub missed : {A E : Type 0} (o : Option A) (e x : E) (v : Result A E) → v ≡ ok_or o e → v ≡ Err x → (o ≡ None) × (x ≡ e)
missed None e x v value was = let same : x ≡ e = cc in (refl, same)
missed (Some y) e x v value was = cc
