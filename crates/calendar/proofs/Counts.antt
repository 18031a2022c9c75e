-- The days of a period in a month in closed form. Assumes nothing.
use mathlib.Core.Path.{◌≡◌, ap, ◌∙◌}
use mathlib.Core.Bool.{cond, ◌&&◌}
use mathlib.Core.Logic.{⊎_elim}
use Prim.Native.Nat.{ℕ, zero, suc, ◌+◌, ◌*◌, ◌-◌, ◌≤◌, ◌<◌, min}
use native.Mathlib.Omega.{arith}
use lib.Dec.{leb}
use borrow.Author.Tests.{le-leb, lt-leb}
use Rattle.units.specs.Lists.{sum_to}
use Rattle.units.proofs.Sums.{le_or_lt, sum_alike}
use Rattle.units.proofs.Tests.{and_false}
use Rattle.calendar.specs.declared.Days.{Days}
use Rattle.calendar.specs.Calendar.{month_length, year_of}
use Rattle.calendar.specs.Periods.{days_in}

-- 1 for a number from lo to hi
abbrev between : ℕ → ℕ → ℕ → ℕ
between lo hi x = cond (leb lo x && leb x hi) 1 0

-- of before + 1 to before + n those from lo to hi: as many as hi reaches, less those below lo
abbrev closed : ℕ → ℕ → ℕ → ℕ → ℕ
closed lo hi before n = min n (hi - before) - (lo - (before + 1))

module _ (lo hi before n : ℕ) where
  one_below : before + (n + 1) < lo → closed lo hi before n + between lo hi (before + (n + 1)) ≡ closed lo hi before (suc n)
  one_below h = rw (lt-leb lo (before + (n + 1)) h) (omega arith)

  one_above : hi < before + (n + 1) → closed lo hi before n + between lo hi (before + (n + 1)) ≡ closed lo hi before (suc n)
  one_above h = rw (lt-leb (before + (n + 1)) hi h, and_false (leb lo (before + (n + 1)))) (omega arith)

  one_inside : lo ≤ before + (n + 1) → before + (n + 1) ≤ hi → closed lo hi before n + between lo hi (before + (n + 1)) ≡ closed lo hi before (suc n)
  one_inside l h = rw (le-leb lo (before + (n + 1)) l, le-leb (before + (n + 1)) hi h) (omega arith)

  one_more : closed lo hi before n + between lo hi (before + (n + 1)) ≡ closed lo hi before (suc n)
  one_more =
      ⊎_elim (λ (a : lo ≤ before + (n + 1)). ⊎_elim (λ (b : before + (n + 1) ≤ hi). one_inside a b) (λ (b : hi < before + (n + 1)). one_above b) (le_or_lt (before + (n + 1)) hi))
      (λ (b : before + (n + 1) < lo). one_below b) (le_or_lt lo (before + (n + 1)))

counted : (lo hi before n : ℕ) → sum_to (λ i. between lo hi (before + (i + 1))) n ≡ closed lo hi before n
unfolding sum_to
counted lo hi before zero = omega arith
counted lo hi before (suc n) = rw (counted lo hi before n) (one_more lo hi before n)

-- what is written before the first day of month k in the year of the period
abbrev pub before_month : Days → ℕ → ℕ
before_month d k = year_of d.first * 10000 + (k + 1) * 100

abbrev pub length_in : Days → ℕ → ℕ
length_in d k = month_length (year_of d.first) (k + 1)

pub days_in_lem : (d : Days) (k : ℕ) → days_in d k ≡ min (length_in d k) (d.last - before_month d k) - (d.first - (before_month d k + 1))
unfolding days_in
days_in_lem d k =
    sum_alike _ _ (length_in d k) (λ i h. ap (between d.first d.last) (omega arith)) ∙ counted d.first d.last (before_month d k) (length_in d k)
