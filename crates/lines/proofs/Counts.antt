-- Numbers without a minus: how the nine of a record line are read. Assumes nothing.
use Prim.Native.Nat.{ℕ, ◌+◌}
use mathlib.Core.Path.{◌≡◌, refl, ap, ◌∙◌}
use mathlib.Core.Bool.{true}
use mathlib.Core.List.{List, [], ◌∷◌}
use lib.IntN.{ℤ, pos, negsuc}
use lib.ListN.{length, get_or, take, drop}
use lib.Seq.{drop-drop}
use borrow.Author.Tests.{eq-eqb, ne_eqb}
use Rattle.std.specs.Prelude.{Option, Some, None, option_and_then}
use Rattle.fields.specs.Field.{parse, count_of, count_in}
use Rattle.lines.specs.Lines.{record_widths, total, shaped, fields, before, numbers_in, numbers_of}
use Rattle.lines.specs.Records.{counts_of, record_with, record_of}

-- ---- one field

by_count : (x : Option ℤ) (n : ℕ) → option_and_then count_of x ≡ Some n → x ≡ Some (pos n)
by_count None n e = cc
by_count (Some (pos m)) n e = cc
by_count (Some (negsuc m)) n e = cc

pub number_plus : (f : List ℕ) (n : ℕ) → count_in f ≡ Some n → parse f ≡ Some (pos n)
unfolding count_in
number_plus f n e = by_count (parse f) n e

pub no_number : (f : List ℕ) → count_in f ≡ None → (z : ℤ) → parse f ≡ Some z → count_of z ≡ None
unfolding count_in
no_number f e z p = rw p at e

-- ---- all fields

-- what each field counts, none where one of them is no number without a minus
unfoldable pub counts_in : List (List ℕ) → Option (List ℕ)
counts_in [] = Some []
counts_in (f ∷ fs) = before (count_in f) (counts_in fs)

pub counts_read : (fs : List (List ℕ)) → option_and_then counts_of (numbers_in fs) ≡ counts_in fs
unfolding numbers_in counts_of counts_in count_in
counts_read [] = refl
counts_read (f ∷ fs) = by (parse f) (numbers_in fs) (counts_read fs)
  where
    none_behind : (o : Option ℕ) → None ≡ before {A = ℕ} o None
    none_behind None = refl
    none_behind (Some n) = refl

    by : (a : Option ℤ) (o : Option (List ℤ)) → option_and_then counts_of o ≡ counts_in fs → option_and_then counts_of (before a o) ≡ before (option_and_then count_of a) (counts_in fs)
    by None o e = refl
    by (Some z) None e = none_behind (count_of z) ∙ ap (before (count_of z)) e
    by (Some z) (Some zs) e = ap (before (count_of z)) e

-- ---- fields by places

-- the bytes from a place on cut into fields
unfoldable pub fields_from : List ℕ → List ℕ → ℕ → List (List ℕ)
fields_from [] bytes at = []
fields_from (w ∷ ws) bytes at = take w (drop at bytes) ∷ fields_from ws bytes (at + w)

pub fields_from_lem : (ws bytes : List ℕ) (at : ℕ) → fields ws (drop at bytes) ≡ fields_from ws bytes at
unfolding fields fields_from
fields_from_lem [] bytes at = refl
fields_from_lem (w ∷ ws) bytes at = rw (drop-drop w at bytes) (ap (λ (fs : List (List ℕ)). take w (drop at bytes) ∷ fs) (fields_from_lem ws bytes (at + w)))

-- ---- the record of a line

pub not_41 : (line : List ℕ) → (length line ≡ 41 → ⊥) → None ≡ record_of line
unfolding record_of numbers_of shaped record_widths total
not_41 line h = rw (ne_eqb (length line) 41 h)

pub not_ended : (line : List ℕ) → length line ≡ 41 → (get_or line 40 0 ≡ 10 → ⊥) → None ≡ record_of line
unfolding record_of numbers_of shaped record_widths total
not_ended line h other = rw (eq-eqb (length line) 41 h, ne_eqb (get_or line 40 0) 10 other)

is_shaped : (line : List ℕ) → length line ≡ 41 → get_or line 40 0 ≡ 10 → shaped record_widths line ≡ true
unfolding shaped record_widths total
is_shaped line h lf = rw (eq-eqb (length line) 41 h, eq-eqb (get_or line 40 0) 10 lf)

said_by : (line : List ℕ) → length line ≡ 41 → get_or line 40 0 ≡ 10 → record_of line ≡ option_and_then (λ ns. Some (record_with ns)) (counts_in (fields_from record_widths line 0))
unfolding record_of numbers_of
said_by line h lf =
    rw (is_shaped line h lf)
    (ap (λ (o : Option (List ℕ)). option_and_then (λ ns. Some (record_with ns)) o)
    (counts_read (fields record_widths line) ∙ ap counts_in (fields_from_lem record_widths line 0)))

-- its nine fields by their places
pub record_said : (line : List ℕ) → length line ≡ 41 → get_or line 40 0 ≡ 10 → record_of line
    ≡ option_and_then (λ ns. Some (record_with ns))
    (before (count_in (take 2 line)) (before (count_in (take 7 (drop 2 line))) (before (count_in (take 7 (drop 9 line)))
    (before (count_in (take 4 (drop 16 line))) (before (count_in (take 4 (drop 20 line))) (before (count_in (take 4 (drop 24 line)))
    (before (count_in (take 4 (drop 28 line))) (before (count_in (take 4 (drop 32 line))) (before (count_in (take 4 (drop 36 line))) (Some []))))))))))
unfolding fields_from record_widths counts_in
record_said line h lf = said_by line h lf
