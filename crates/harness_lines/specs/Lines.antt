-- Lines of a text, and words and numbers of a line. A line is the text from it on: what it lacks is read on behind it.
-- Assumes nothing.
use Rattle.std.specs.Prelude.{ℕ, zero, suc, ◌+◌, ◌-◌, ◌*◌, min, Bool, true, false, cond, ◌==◌, List, [], ◌∷◌, ltb, eqb, ℤ, pos, neg_ℤ}
use Rattle.std.specs.List.{before_first, after_first}
use Rattle.units.specs.Grounds.{outside}

-- the bytes before the first byte c, all of them where there is none, and those behind it
abbrev pub part_before : ℕ → List ℕ → List ℕ
part_before c bytes = before_first (λ x. x == c) bytes

abbrev pub part_behind : ℕ → List ℕ → List ℕ
part_behind c bytes = after_first (λ x. x == c) bytes

-- the text from each of its lines on; a line begins at the front, where `begins` says so, and behind each line end
unfoldable pub from_lines : Bool → List ℕ → List (List ℕ)
from_lines begins [] = []
from_lines true (c ∷ cs) = (c ∷ cs) ∷ from_lines (c == 10) cs
from_lines false (c ∷ cs) = from_lines (c == 10) cs

-- the text from word k on, counted from a line on; the first is word 0, and a space alone ends a word
unfoldable pub word_in : ℕ → List ℕ → List ℕ
word_in zero line = line
word_in (suc k) line = part_behind 32 (word_in k line)

-- n with one more digit behind it; n itself where 64 bits do not hold that
unfoldable pub with_digit : ℕ → ℕ → ℕ
with_digit n d = cond (ltb 18446744073709551615 (n * 10 + d)) n (n * 10 + d)

-- n with the digits at the front behind it
unfoldable pub digits_of : ℕ → List ℕ → ℕ
digits_of n [] = n
digits_of n (c ∷ cs) = cond (outside 48 57 c) n (digits_of (with_digit n (c - 48)) cs)

-- n as a signed number of 64 bits, and minus n; the nearest there is where 64 bits do not hold it
unfoldable pub as_positive : ℕ → ℤ
as_positive n = pos (min n 9223372036854775807)

unfoldable pub as_negative : ℕ → ℤ
as_negative n = neg_ℤ (pos (min n 9223372036854775808))

-- the signed number that a word begins with: minus the number behind it where a minus stands there
unfoldable pub signed_of : List ℕ → ℤ
signed_of [] = pos 0
signed_of (c ∷ cs) = cond (eqb c 45) (as_negative (digits_of 0 cs)) (as_positive (digits_of 0 (c ∷ cs)))

-- the number at word k, counted from a line on, and the signed number there
unfoldable pub number_in : List ℕ → ℕ → ℕ
number_in line k = digits_of 0 (word_in k line)

unfoldable pub signed_in : List ℕ → ℕ → ℤ
signed_in line k = signed_of (word_in k line)
