-- Line 1 in its two forms: 13 numbers, or 15. Assumes nothing.
use Prim.Native.Nat.{ℕ, ◌+◌, ◌≤◌, ◌<◌}
use mathlib.Core.Path.{◌≡◌, refl, sym, ap, ◌∙◌}
use mathlib.Core.Bool.{true, false}
use mathlib.Core.List.{List, [], ◌∷◌, ◌++◌, append-nil}
use Rattle.std.specs.Prelude.{Option, None, Some, option_map, option_and_then}
use native.Mathlib.Omega.{arith}
use lib.IntN.{ℤ, pos}
use lib.ListN.{length, get_or, take, drop}
use lib.Seq.{drop-drop, take_at, drop_at}
use Rattle.calendar.specs.declared.Period.{Period}
use Rattle.calendar.specs.declared.Period.TheVariants as period
use Rattle.calendar.specs.Periods.{days}
use Rattle.fields.specs.Field.{parse, count_of, count_in}
use Rattle.inventory.specs.declared.Head.{Head}
use Rattle.lines.specs.declared.HeadLine.{HeadLine}
use Rattle.lines.specs.Lines.{lines, first_of, head_widths, total, fields, before, numbers_in, numbers_of}
use Rattle.lines.specs.Records.{period_with, head_over, head_with, or_else, head_of}
use Rattle.lines.specs.Reading.{head_line}
use Rattle.lines.proofs.Lines.{line_length, then_back, count_numbers, too_short, no_lf, whole_line, ends_before, same_numbers, first_of-lines, first_length}
use Rattle.lines.proofs.Counts.{number_plus, no_number}

-- ---- the numbers of two parts of a line

-- the numbers of both, none where one has none
abbrev both : Option (List ℤ) → Option (List ℤ) → Option (List ℤ)
both (Some zs) (Some ds) = Some (zs ++ ds)
both (Some zs) None = None
both None o = None

both_more : (a : Option ℤ) (b c : Option (List ℤ)) → before a (both b c) ≡ both (before a b) c
both_more None b c = refl
both_more (Some z) None c = refl
both_more (Some z) (Some zs) None = refl
both_more (Some z) (Some zs) (Some ds) = refl

both_none : (o : Option (List ℤ)) → both (Some []) o ≡ o
both_none None = refl
both_none (Some ds) = refl

numbers_both : (ws vs l : List ℕ) → numbers_in (fields (ws ++ vs) l) ≡ both (numbers_in (fields ws l)) (numbers_in (fields vs (drop (total ws) l)))
unfolding fields numbers_in total
numbers_both [] vs l = sym (both_none (numbers_in (fields vs l)))
numbers_both (w ∷ ws) vs l =
    ap (before (parse (take w l))) (numbers_both ws vs (drop w l))
    ∙ ap (λ (k : List ℕ). before (parse (take w l)) (both (numbers_in (fields ws (drop w l))) (numbers_in (fields vs k)))) (drop-drop (total ws) w l)
    ∙ both_more (parse (take w l)) (numbers_in (fields ws (drop w l))) (numbers_in (fields vs (drop (w + total ws) l)))

-- L and twelve T, then what says the period
with_period : (zs ds : List ℤ) → length zs ≡ 13 → head_with (zs ++ ds) ≡ option_and_then (λ p. head_over p zs) (period_with ds)
with_period zs ds h = rw (take_at zs ds 13 h, drop_at zs ds 13 h)

-- ---- the two forms by places

module _ (s : List ℕ) where
  abbrev thirteen : Option (List ℤ)
  thirteen = numbers_in (fields (head_widths false) s)

  year_by : (o : Option (List ℤ)) → thirteen ≡ o → option_and_then head_with o ≡ option_and_then (head_over period.Year) o
  unfolding head_widths
  year_by None e = refl
  year_by (Some zs) e = ap head_with (sym (append-nil zs)) ∙ with_period zs [] (count_numbers (head_widths false) s zs e)

  -- 13 numbers
  year_form : option_and_then head_with thirteen ≡ option_and_then (head_over period.Year) thirteen
  year_form = year_by thirteen refl

  abbrev first_day : List ℕ
  first_day = take 9 (drop 65 s)

  abbrev last_day : List ℕ
  last_day = take 9 (drop 74 s)

  -- 15 numbers
  fifteen : numbers_in (fields (head_widths true) s) ≡ both thirteen (before (parse first_day) (before (parse last_day) (Some [])))
  unfolding head_widths total fields numbers_in
  fifteen =
      numbers_both (head_widths false) (9 ∷ 9 ∷ []) s
      ∙ ap (λ (k : List ℕ). both thirteen (before (parse first_day) (before (parse (take 9 k)) (Some [])))) (drop-drop 9 65 s)

  days_by : (o : Option (List ℤ)) → thirteen ≡ o → (first last : ℕ)
      → option_and_then head_with (both o (Some (pos first ∷ pos last ∷ []))) ≡ option_and_then (head_over (period.Days (days first last))) o
  unfolding head_widths
  days_by None e first last = refl
  days_by (Some zs) e first last = with_period zs (pos first ∷ pos last ∷ []) (count_numbers (head_widths false) s zs e)

  pub days_form : (first last : ℕ) → count_in first_day ≡ Some first → count_in last_day ≡ Some last
      → option_and_then head_with (numbers_in (fields (head_widths true) s)) ≡ option_and_then (head_over (period.Days (days first last))) thirteen
  days_form first last a b = rw (fifteen, number_plus first_day first a, number_plus last_day last b) (days_by thirteen refl first last)

  first_by : (o : Option (List ℤ)) → thirteen ≡ o → (a b : Option ℤ) → ((z : ℤ) → a ≡ Some z → count_of z ≡ None)
      → option_and_then head_with (both o (before a (before b (Some [])))) ≡ None
  unfolding head_widths
  first_by None e a b h = refl
  first_by (Some zs) e None b h = refl
  first_by (Some zs) e (Some z) None h = refl
  first_by (Some zs) e (Some z) (Some y) h =
      with_period zs (z ∷ y ∷ []) (count_numbers (head_widths false) s zs e) ∙ rw (h z refl)

  pub first_missing : count_in first_day ≡ None → option_and_then head_with (numbers_in (fields (head_widths true) s)) ≡ None
  first_missing h = rw fifteen (first_by thirteen refl (parse first_day) (parse last_day) (no_number first_day h))

  last_by : (o : Option (List ℤ)) → thirteen ≡ o → (a b : Option ℤ) → ((z : ℤ) → b ≡ Some z → count_of z ≡ None)
      → option_and_then head_with (both o (before a (before b (Some [])))) ≡ None
  unfolding head_widths
  last_by None e a b h = refl
  last_by (Some zs) e None b h = refl
  last_by (Some zs) e (Some z) None h = refl
  last_by (Some zs) e (Some z) (Some y) h =
      with_period zs (z ∷ y ∷ []) (count_numbers (head_widths false) s zs e) ∙ rw (h y refl) (by (count_of z))
    where
      by : (o : Option ℕ) → option_and_then {U = Head} (λ p. head_over p zs) (option_and_then {U = Period} (λ n. None) o) ≡ None
      by None = refl
      by (Some n) = refl

  pub last_missing : count_in last_day ≡ None → option_and_then head_with (numbers_in (fields (head_widths true) s)) ≡ None
  last_missing h = rw fifteen (last_by thirteen refl (parse first_day) (parse last_day) (no_number last_day h))

  -- ---- the first line

  abbrev first_line : List ℕ
  first_line = first_of (lines s)

  head_by : (a b : Option (List ℤ)) → numbers_of (head_widths false) (take (line_length s) s) ≡ a → numbers_of (head_widths true) (take (line_length s) s) ≡ b
      → head_of first_line ≡ option_and_then head_with (or_else a b)
  unfolding head_of
  head_by a b p q = rw (first_of-lines s, p, q)

  -- one form alone can fit
  else_none : (o : Option (List ℤ)) → or_else o None ≡ o
  else_none None = refl
  else_none (Some zs) = refl

  pub line_short : length s < 66 → head_of first_line ≡ None
  unfolding head_widths total
  line_short h = head_by None None (too_short (head_widths false) s (omega arith)) (too_short (head_widths true) s (omega arith))

  module _ (h : 65 < length s) where
    pub year_line : get_or s 65 0 ≡ 10 → head_of first_line ≡ option_and_then (head_over period.Year) thirteen
    unfolding head_widths total
    year_line lf =
        head_by thirteen None (same_numbers (head_widths false) s h lf) (ends_before (head_widths true) s 65 (omega arith) h lf)
        ∙ ap (λ (o : Option (List ℤ)). option_and_then head_with o) (else_none thirteen) ∙ year_form

    module _ (no : get_or s 65 0 ≡ 10 → ⊥) where
      pub days_short : length s < 84 → head_of first_line ≡ None
      unfolding head_widths total
      days_short k = head_by None None (no_lf (head_widths false) s no) (too_short (head_widths true) s (omega arith))

      pub days_no_lf : (get_or s 83 0 ≡ 10 → ⊥) → head_of first_line ≡ None
      unfolding head_widths total
      days_no_lf k = head_by None None (no_lf (head_widths false) s no) (no_lf (head_widths true) s k)

      pub days_line : 83 < length s → get_or s 83 0 ≡ 10 → head_of first_line ≡ option_and_then head_with (numbers_in (fields (head_widths true) s))
      unfolding head_widths total
      days_line k lf = head_by None (numbers_in (fields (head_widths true) s)) (no_lf (head_widths false) s no) (same_numbers (head_widths true) s k lf)

-- ---- what the code gives

-- the head of the first line, and the bytes of that line
abbrev pub first_head : List ℕ → Option HeadLine
first_head s = option_map (head_line (length (first_of (lines s)))) (head_of (first_of (lines s)))

module _ (s : List ℕ) where
  none_read : head_of (first_of (lines s)) ≡ None → None ≡ first_head s
  none_read e = rw e

  pub short_none : length s < 66 → None ≡ first_head s
  short_none h = none_read (line_short s h)

  -- a head is read: the line has the bytes of its form
  module _ (ws : List ℕ) (make : List ℤ → Option Head) (size : ℕ) (long : size ≡ total ws + 1) (h : total ws < length s) (lf : get_or s (total ws) 0 ≡ 10) (head : Head) (e : option_and_then make (numbers_in (fields ws s)) ≡ Some head) (o : head_of (first_of (lines s)) ≡ option_and_then make (numbers_in (fields ws s))) where
    case_read : Some (head_line size head) ≡ first_head s
    case_read =
        let zs = then_back (numbers_in (fields ws s)) make head e in
        rw (o, e, first_length s, whole_line ws s zs.0 h lf zs.1, long)

  module _ (h : 66 ≤ length s) where
    module _ (lf : get_or s 65 0 ≡ 10) where
      pub year_none : None ≡ option_and_then (head_over period.Year) (numbers_in (fields (head_widths false) s)) → None ≡ first_head s
      year_none e = none_read (year_line s (omega arith) lf ∙ sym e)

      pub year_read : (head : Head) → Some head ≡ option_and_then (head_over period.Year) (numbers_in (fields (head_widths false) s)) → Some (head_line 66 head) ≡ first_head s
      unfolding head_widths total
      year_read head e = case_read (head_widths false) (head_over period.Year) 66 refl (omega arith) lf head (sym e) (year_line s (omega arith) lf)

    module _ (no : get_or s 65 0 ≡ 10 → ⊥) where
      pub days_short_none : length s < 84 → None ≡ first_head s
      days_short_none k = none_read (days_short s (omega arith) no k)

      pub days_lf_none : (get_or s 83 0 ≡ 10 → ⊥) → None ≡ first_head s
      days_lf_none k = none_read (days_no_lf s (omega arith) no k)

      module _ (k : 84 ≤ length s) (lf : get_or s 83 0 ≡ 10) where
        pub first_none : count_in (take 9 (drop 65 s)) ≡ None → None ≡ first_head s
        first_none e = none_read (days_line s (omega arith) no (omega arith) lf ∙ first_missing s e)

        pub last_none : count_in (take 9 (drop 74 s)) ≡ None → None ≡ first_head s
        last_none e = none_read (days_line s (omega arith) no (omega arith) lf ∙ last_missing s e)

        module _ (first last : ℕ) (a : count_in (take 9 (drop 65 s)) ≡ Some first) (b : count_in (take 9 (drop 74 s)) ≡ Some last) where
          pub days_none : None ≡ option_and_then (head_over (period.Days (days first last))) (numbers_in (fields (head_widths false) s)) → None ≡ first_head s
          days_none e = none_read (days_line s (omega arith) no (omega arith) lf ∙ days_form s first last a b ∙ sym e)

          pub days_read : (head : Head) → Some head ≡ option_and_then (head_over (period.Days (days first last))) (numbers_in (fields (head_widths false) s)) → Some (head_line 84 head) ≡ first_head s
          unfolding head_widths total
          days_read head e =
              case_read (head_widths true) head_with 84 refl (omega arith) lf head (days_form s first last a b ∙ sym e) (days_line s (omega arith) no (omega arith) lf)
