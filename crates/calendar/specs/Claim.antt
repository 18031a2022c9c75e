-- The laws of the calendar and of the weights (SPECIFICATION, "Periods"), as one claim.
-- Assumes nothing.
use Rattle.std.specs.Prelude.{ℕ, ◌+◌, ◌≤◌, ◌<◌, ◌≡◌, false, cond, List, [], ◌∷◌, eqb}
use Rattle.units.specs.Figures.{Figure, figure, AllPrinted}
use Rattle.units.specs.Lists.{sum_to}
use Rattle.calendar.specs.declared.Days.{Days}
use Rattle.calendar.specs.declared.Period.TheVariants as period
use Rattle.calendar.specs.Calendar.{is_leap, month_length, written, month_of, no_day, day_number}
use Rattle.calendar.specs.Periods.{days, period_from, days_number, TakenDays, days_in, days_of}

-- the first and the last day of a year
abbrev pub full_year : ℕ → Days
full_year year = days (written year 1 1) (written year 12 31)

-- a day alone
abbrev pub one_day : ℕ → Days
one_day date = days date date

unfoldable pub figures : List Figure
figures =
    -- 29 February of 2000 and 1996, not of 2100 and 1997
    figure (days_number (one_day 20000229)) 0
    ∷ figure (days_number (one_day 19960229)) 0
    ∷ figure (days_number (one_day 21000229)) 19
    ∷ figure (days_number (one_day 19970229)) 19
    -- its number in its year, and what February weighs in that day
    ∷ figure (day_number 20000229) 60
    ∷ figure (days_in (one_day 20000229) 1) 1
    ∷ figure (days_of (one_day 20000229)) 1
    -- the calendar's ends, and the days beyond them
    ∷ figure (days_number (one_day 19800101)) 0
    ∷ figure (days_number (one_day 21001231)) 0
    ∷ figure (days_number (one_day 19791231)) 19
    ∷ figure (days_number (one_day 21010101)) 19
    -- full years of 366 and 365 days
    ∷ figure (days_of (full_year 2000)) 366
    ∷ figure (days_of (full_year 1996)) 366
    ∷ figure (days_of (full_year 2100)) 365
    ∷ figure (days_of (full_year 1997)) 365
    -- 15 May to 20 October 2026: May, June and October, and all days
    ∷ figure (days_in (days 20260515 20261020) 4) 17
    ∷ figure (days_in (days 20260515 20261020) 5) 30
    ∷ figure (days_in (days 20260515 20261020) 9) 20
    ∷ figure (days_of (days 20260515 20261020)) 159
    -- the last day before the first; another year; no day comes before either; 0 and 0 are no day
    ∷ figure (days_number (days 20260515 20260514)) 20
    ∷ figure (days_number (days 20260515 20270514)) 20
    ∷ figure (days_number (days 20260532 20260514)) 19
    ∷ figure (days_number (days 0 0)) 19
    ∷ []

pub record CalendarClaim : Type 0 where
  -- two numbers beside a head: 0 and 0 are no dates, anything else is dated
  pub no_dates : period_from 0 0 ≡ period.Year
  pub dates : (first last : ℕ) → (first ≡ 0 → last ≡ 0 → ⊥) → period_from first last ≡ period.Days (days first last)
  -- the days of a taken period in the twelve months are its days: of its two ends the first is not the later, so nothing is cut
  pub weights : (d : Days) → TakenDays d → sum_to (days_in d) 12 ≡ days_of d
  pub ends : (d : Days) → TakenDays d → day_number d.first ≤ day_number d.last
  pub least_days : (d : Days) → TakenDays d → 1 ≤ days_of d
  pub most_days : (d : Days) → TakenDays d → days_of d ≤ 366
  -- a full year is taken, its weights are the months' lengths, and it has 365 or 366 days
  pub full_taken : (year : ℕ) → 1980 ≤ year → year ≤ 2100 → TakenDays (full_year year)
  pub full_weights : (year k : ℕ) → 1980 ≤ year → year ≤ 2100 → k < 12 → days_in (full_year year) k ≡ month_length year (k + 1)
  pub full_days : (year : ℕ) → 1980 ≤ year → year ≤ 2100 → days_of (full_year year) ≡ cond (is_leap year) 366 365
  -- a day alone is taken, and weighs 1 in its own month and nothing in any other
  pub day_taken : (date : ℕ) → no_day date ≡ false → TakenDays (one_day date)
  pub day_weights : (date k : ℕ) → no_day date ≡ false → k < 12 → days_in (one_day date) k ≡ cond (eqb (k + 1) (month_of date)) 1 0
  -- the worked cases
  pub worked : AllPrinted figures
