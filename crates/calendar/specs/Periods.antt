-- Periods of a head: when one is refused, and what each month weighs in it (SPECIFICATION, "Periods").
-- Assumes nothing.
use Rattle.std.specs.Prelude.{ℕ, ◌+◌, ◌-◌, ◌≡◌, Bool, false, not, cond, ◌&&◌, ◌||◌, List, [], ◌∷◌, eqb, leb, ltb}
use Rattle.units.specs.Lists.{sum_to}
use Rattle.units.specs.Grounds.{Ground, ground, first_fit}
use Rattle.calendar.specs.declared.Days.{Days}
use Rattle.calendar.specs.declared.Period.{Period}
use Rattle.calendar.specs.declared.Period.TheVariants as period
use Rattle.calendar.specs.Calendar.{month_length, written, year_of, no_day, day_number}

abbrev pub days : ℕ → ℕ → Days
days first last = record { first = first; last = last }

-- two numbers beside a head: 0 and 0 are no dates, anything else is dated
unfoldable pub period_from : ℕ → ℕ → Period
period_from first last = cond (eqb first 0 && eqb last 0) period.Year (period.Days (days first last))

-- the first or the last is no such day or year
abbrev pub day_missing : Period → Bool
day_missing period.Year = false
day_missing (period.Days d) = no_day d.first || no_day d.last

-- the last day before the first, or in another year
abbrev pub order_wrong : Period → Bool
order_wrong period.Year = false
order_wrong (period.Days d) = ltb d.last d.first || not (eqb (year_of d.first) (year_of d.last))

-- the grounds of a period, in their order
unfoldable pub period_grounds : Period → List Ground
period_grounds p = ground 19 (day_missing p) ∷ ground 20 (order_wrong p) ∷ []

-- no ground fits the period
abbrev pub TakenPeriod : Period → Type 0
TakenPeriod p = first_fit (period_grounds p) ≡ 0

-- the number of a first and a last day: 0 where they are taken
abbrev pub days_number : Days → ℕ
days_number d = first_fit (period_grounds (period.Days d))

abbrev pub TakenDays : Days → Type 0
TakenDays d = TakenPeriod (period.Days d)

-- a day as it is written lies in the period, and so do its first and its last day
abbrev pub in_period : Days → ℕ → Bool
in_period d date = leb d.first date && leb date d.last

-- the days of the period in month k, 0 January to 11 December: those of the month that lie in it
unfoldable pub days_in : Days → ℕ → ℕ
days_in d k =
    sum_to (λ i. cond (in_period d (written (year_of d.first) (k + 1) (i + 1))) 1 0) (month_length (year_of d.first) (k + 1))

-- the days of the period: the number of its last day less that of its first, plus 1
unfoldable pub days_of : Days → ℕ
days_of d = day_number d.last - day_number d.first + 1

-- what month k weighs: a twelfth of the year, or its days in the period
abbrev pub month_weight : Period → ℕ → ℕ
month_weight period.Year k = 1
month_weight (period.Days d) k = days_in d k

-- what the period weighs: twelve twelfths, or its days
abbrev pub period_weight : Period → ℕ
period_weight period.Year = 12
period_weight (period.Days d) = days_of d
