-- The period of two numbers, and the first ground that fits a period, test by test. Assumes nothing.
use mathlib.Core.Path.{◌≡◌, refl}
use mathlib.Core.Bool.{true, false}
use Prim.Native.Nat.{ℕ, ◌≤◌, ◌<◌}
use lib.Dec.{eqb, ltb}
use borrow.Author.Tests.{eq-eqb, ne_eqb, lt-ltb, le-ltb}
use Rattle.units.specs.Grounds.{first_fit}
use Rattle.units.proofs.Tests.{or_true, and_false}
use Rattle.calendar.specs.declared.Days.{Days}
use Rattle.calendar.specs.declared.Period.TheVariants as period
use Rattle.calendar.specs.Calendar.{year_of, no_day}
use Rattle.calendar.specs.Periods.{days, period_from, period_grounds, days_number}

module _ (first last : ℕ) where
  pub no_dates : first ≡ 0 → last ≡ 0 → period.Year ≡ period_from first last
  unfolding period_from
  no_dates a b = rw (eq-eqb first 0 a, eq-eqb last 0 b)

  pub last_alone : (last ≡ 0 → ⊥) → period.Days (days first last) ≡ period_from first last
  unfolding period_from
  last_alone b = rw (ne_eqb last 0 b, and_false (eqb first 0))

  pub first_there : (first ≡ 0 → ⊥) → period.Days (days first last) ≡ period_from first last
  unfolding period_from
  first_there a = rw (ne_eqb first 0 a)

module _ (d : Days) where
  pub no_first : no_day d.first ≡ true → 19 ≡ days_number d
  unfolding period_grounds first_fit
  no_first h = rw h

  pub no_last : no_day d.last ≡ true → 19 ≡ days_number d
  unfolding period_grounds first_fit
  no_last h = rw (h, or_true (no_day d.first))

  module _ (first : no_day d.first ≡ false) (last : no_day d.last ≡ false) where
    pub before_first : d.last < d.first → 20 ≡ days_number d
    unfolding period_grounds first_fit
    before_first h = rw (first, last, lt-ltb d.last d.first h)

    pub other_year : (year_of d.first ≡ year_of d.last → ⊥) → 20 ≡ days_number d
    unfolding period_grounds first_fit
    other_year h = rw (first, last, ne_eqb (year_of d.first) (year_of d.last) h, or_true (ltb d.last d.first))

    pub good_days : d.first ≤ d.last → year_of d.first ≡ year_of d.last → 0 ≡ days_number d
    unfolding period_grounds first_fit
    good_days h e = rw (first, last, le-ltb d.last d.first h, eq-eqb (year_of d.first) (year_of d.last) e)

-- a period without dates is taken
pub year_taken : 0 ≡ first_fit (period_grounds period.Year)
unfolding period_grounds first_fit
year_taken = refl
