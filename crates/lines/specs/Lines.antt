-- Lines of a sheet, and the numbers of a line (SPECIFICATION, "Sheet").
-- Assumes nothing.
use Rattle.std.specs.Prelude.{ℕ, ◌+◌, Bool, true, false, cond, ◌&&◌, List, [], ◌∷◌, ◌++◌, eqb, ℤ, length, get_or, take, drop, replicate, Option, Some, None}
use Rattle.fields.specs.Field.{parse}

-- a byte before lines: a line of its own if it is LF, else the first byte of the first line
abbrev pub glue : ℕ → Bool → List (List ℕ) → List (List ℕ)
glue b true ls = (b ∷ []) ∷ ls
glue b false [] = (b ∷ []) ∷ []
glue b false (l ∷ ls) = (b ∷ l) ∷ ls

-- the lines, each with its LF; bytes after the last LF are a line without one
unfoldable pub lines : List ℕ → List (List ℕ)
lines [] = []
lines (b ∷ bs) = glue b (eqb b 10) (lines bs)

-- the first of lines, without bytes where there is none
abbrev pub first_of : List (List ℕ) → List ℕ
first_of [] = []
first_of (l ∷ ls) = l

-- line 1: L, then twelve T; where it is dated the first and the last day follow
unfoldable pub head_widths : Bool → List ℕ
head_widths dated = replicate 13 5 ++ cond dated (9 ∷ 9 ∷ []) []

-- the others: class, vehicles, km, three shares, three speeds
unfoldable pub record_widths : List ℕ
record_widths = 2 ∷ 7 ∷ 7 ∷ 4 ∷ 4 ∷ 4 ∷ 4 ∷ 4 ∷ 4 ∷ []

unfoldable pub total : List ℕ → ℕ
total [] = 0
total (w ∷ ws) = w + total ws

-- a line has one byte more than its fields, and its last byte is LF
unfoldable pub shaped : List ℕ → List ℕ → Bool
shaped widths line = eqb (length line) (total widths + 1) && eqb (get_or line (total widths) 0) 10

-- a line cut into fields
unfoldable pub fields : List ℕ → List ℕ → List (List ℕ)
fields [] line = []
fields (w ∷ ws) line = take w line ∷ fields ws (drop w line)

-- one more where there are some
abbrev pub before : {A : Type 0} → Option A → Option (List A) → Option (List A)
before (Some x) (Some xs) = Some (x ∷ xs)
before (Some x) None = None
before None xs = None

-- the numbers of fields, each with its sign, none where one of them is no number
unfoldable pub numbers_in : List (List ℕ) → Option (List ℤ)
numbers_in [] = Some []
numbers_in (f ∷ fs) = before (parse f) (numbers_in fs)

-- the numbers of a line, none where its shape is wrong
unfoldable pub numbers_of : List ℕ → List ℕ → Option (List ℤ)
numbers_of widths line = cond (shaped widths line) (numbers_in (fields widths line)) None
