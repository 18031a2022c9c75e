-- The Gregorian calendar from 1980 to 2100 (SPECIFICATION, "Periods").
-- Assumes nothing.
use Rattle.std.specs.Prelude.{ℕ, ◌+◌, ◌*◌, ◌-◌, ◌/◌, ◌%◌, Bool, not, cond, ◌&&◌, ◌||◌, [], ◌∷◌, eqb, get_or}
use Rattle.units.specs.Lists.{sum_to}
use Rattle.units.specs.Grounds.{outside}

-- every fourth year is a leap year, but of the centuries only every fourth
unfoldable pub is_leap : ℕ → Bool
is_leap year = eqb (year % 4) 0 && (not (eqb (year % 100) 0) || eqb (year % 400) 0)

-- the days of a month, 1 January to 12 December
unfoldable pub month_length : ℕ → ℕ → ℕ
month_length year month =
    get_or (31 ∷ cond (is_leap year) 29 28 ∷ 31 ∷ 30 ∷ 31 ∷ 30 ∷ 31 ∷ 31 ∷ 30 ∷ 31 ∷ 30 ∷ 31 ∷ []) (month - 1) 0

-- a day as it is written: year × 10,000 + month × 100 + day
abbrev pub written : ℕ → ℕ → ℕ → ℕ
written year month day = year * 10000 + month * 100 + day

-- its year, its month and its day of the month
abbrev pub year_of : ℕ → ℕ
year_of date = date / 10000

abbrev pub month_of : ℕ → ℕ
month_of date = date / 100 % 100

abbrev pub day_of : ℕ → ℕ
day_of date = date % 100

-- no such day or year
unfoldable pub no_day : ℕ → Bool
no_day date =
    outside 1980 2100 (year_of date) || outside 1 12 (month_of date) || outside 1 (month_length (year_of date) (month_of date)) (day_of date)

-- the number of a day in its year, from 1: the days of the months before its own, and its day of the month
unfoldable pub day_number : ℕ → ℕ
day_number date = sum_to (λ k. month_length (year_of date) (k + 1)) (month_of date - 1) + day_of date
