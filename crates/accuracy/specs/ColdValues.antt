-- X by class and quantity, rounded and unrounded, without dates and with, and what goes by the X of CO of class 3 (SPECIFICATION, "Cold starts"
-- and "Accuracy"), as one claim.
-- Assumes nothing.
use Rattle.std.specs.Prelude.{ℕ, ◌*◌, ◌≤◌, ◌<◌, ◌≡◌, List, [], ◌∷◌, get_or}
use Rattle.units.specs.Lists.{sum_to}
use Rattle.units.specs.Fractions.{over}
use Rattle.units.specs.Rounding.{half_up}
use Rattle.classes.specs.Classes.{fuel_of}
use Rattle.calendar.specs.declared.Days.{Days}
use Rattle.calendar.specs.declared.Period.TheVariants as period
use Rattle.calendar.specs.Periods.{days_in, days_of}
use Rattle.coldstart.specs.ColdStart.{slope_of, month_at}
use Rattle.inventory.specs.declared.Head.{Head}
use Rattle.inventory.specs.declared.Record.{Record}
use Rattle.inventory.specs.declared.Run.{Run}
use Rattle.inventory.specs.Limits.{XLimits}
use Rattle.inventory.specs.Opening.{empty_run, fresh_run, open_number}
use Rattle.inventory.specs.Adding.{x_of, part_at}
use Rattle.accuracy.specs.Reference.{exact_x}
use Rattle.accuracy.specs.Claim.{run_after}

-- X of a class and a quantity in the run of a head
abbrev pub opened_x : Head → ℕ → ℕ → ℕ
opened_x head class quantity = x_of (fresh_run head).x class quantity

-- any class and quantity but CO of class 3
abbrev pub NotCoOfClass3 : ℕ → ℕ → Type 0
NotCoOfClass3 class quantity = class ≡ 3 → quantity ≡ 0 → ⊥

-- two lists of values X that differ at most in the last, that of CO of class 3
abbrev pub SameFifteen : List ℕ → List ℕ → Type 0
SameFifteen xs ys = (i : ℕ) → i < 15 → get_or xs i 0 ≡ get_or ys i 0

-- no record of the list is of class 3
abbrev pub WithoutClass3 : List Record → Type 0
WithoutClass3 [] = Unit
WithoutClass3 (rec ∷ recs) = (rec.class ≡ 3 → ⊥) × WithoutClass3 recs

-- the run with other values X
abbrev pub with_x : List ℕ → Run → Run
with_x xs run =
    record {
      trip = run.trip;
      x = xs;
      count = run.count;
      km = run.km;
      grams = run.grams;
      rests = run.rests;
      total_grams = run.total_grams;
      total_rests = run.total_rests;
    }

-- the sum of B × Q of a head over the twelve months
abbrev pub sum_of_months : Head → ℕ → ℕ → ℕ
sum_of_months head fuel quantity = sum_to (month_at head.trip (slope_of fuel quantity) head.temps) 12

-- the sum of days × B × Q of a head, the days those of the period in each month
abbrev pub sum_of_days : Head → Days → ℕ → ℕ → ℕ
sum_of_days head d fuel quantity = sum_to (λ k. days_in d k * month_at head.trip (slope_of fuel quantity) head.temps k) 12

-- every X of a head, rounded and unrounded, is its sum over 1,000 × weight
pub record EachX (head : Head) (sum : ℕ → ℕ → ℕ) (weight : ℕ) : Type 0 where
  -- CO of class 3 has its own: times 72, over 100,000 × weight
  pub class_3 : opened_x head 3 0 ≡ half_up (sum 0 0 * 72) (100000 * weight)
  pub exact_class_3 : exact_x head 3 0 ≡ over (sum 0 0 * 72) (100000 * weight)
  -- every other class and quantity has that of its fuel, which is 100 times the sum over 100,000 × weight
  pub others : (class quantity : ℕ) → quantity < 5 → NotCoOfClass3 class quantity
      → opened_x head class quantity ≡ half_up (sum (fuel_of class) quantity) (1000 * weight)
  pub exact_others : (class quantity : ℕ) → NotCoOfClass3 class quantity
      → exact_x head class quantity ≡ over (sum (fuel_of class) quantity * 100) (100000 * weight)

pub record ColdValuesClaim : Type 0 where
  -- a head without dates keeps twelfths, and with them every X: the sum of B × Q over 12,000, of CO of class 3 times 72 over 1,200,000
  pub undated : (head : Head) → head.period ≡ period.Year → EachX head (sum_of_months head) 12
  -- with dates the sum of days × B × Q is over 1,000 × days of the period
  pub dated : (head : Head) (d : Days) → head.period ≡ period.Days d → EachX head (sum_of_days head d) (days_of d)
  -- the unrounded X of a head that opening takes is a fraction over a positive denominator
  pub positive : (head : Head) → open_number head ≡ 0 → (class quantity : ℕ) → 0 < (exact_x head class quantity).denominator
  -- each X is the unrounded one, half up, rounded once
  pub rounded : (head : Head) (class quantity : ℕ) → quantity < 5
      → opened_x head class quantity ≡ half_up (exact_x head class quantity).numerator (exact_x head class quantity).denominator
  -- the last X moves nothing but the cold CO of class 3 (sum 3): what a record brings to any other sum is the same whatever it is
  pub last_x_alone : (xs ys : List ℕ) → SameFifteen xs ys → (rec : Record) (j : ℕ) → j < 60 → (rec.class ≡ 3 → j ≡ 3 → ⊥)
      → part_at xs rec j ≡ part_at ys rec j
  -- so a list of adds without class 3 gives the same run whatever the last X is, but for that X itself
  pub without_class_3 : (trip : ℕ) (xs ys : List ℕ) → 10 ≤ trip → trip ≤ 200 → XLimits xs → XLimits ys → SameFifteen xs ys
      → (recs : List Record) → WithoutClass3 recs → run_after (empty_run trip ys) recs ≡ with_x ys (run_after (empty_run trip xs) recs)
