-- Laws of leap years, of the months' lengths and of what makes a day. Assumes nothing.
use mathlib.Core.Path.{◌≡◌, refl, sym, ◌∙◌}
use mathlib.Core.Bool.{Bool, true, false, cond, ◌||◌}
use Prim.Native.Nat.{ℕ, zero, suc, ◌+◌, ◌-◌, ◌/◌, ◌%◌, ◌≤◌, ◌<◌}
use native.Mathlib.Omega.{arith}
use Rattle.units.specs.Lists.{sum_to}
use Rattle.units.specs.Grounds.{outside}
use Rattle.units.proofs.Tests.{or_false_left, or_false_right, inside, inside_low, inside_high}
use Rattle.calendar.specs.Calendar.{is_leap, month_length, year_of, month_of, day_of, no_day}

-- what holds of the twelve months holds below 12
pub twelve : (P : ℕ → Type 0) → P 0 → P 1 → P 2 → P 3 → P 4 → P 5 → P 6 → P 7 → P 8 → P 9 → P 10 → P 11 → (k : ℕ) → k < 12 → P k
twelve P a b c d e f g h i j l m zero o = a
twelve P a b c d e f g h i j l m (suc zero) o = b
twelve P a b c d e f g h i j l m (suc (suc zero)) o = c
twelve P a b c d e f g h i j l m (suc (suc (suc zero))) o = d
twelve P a b c d e f g h i j l m (suc (suc (suc (suc zero)))) o = e
twelve P a b c d e f g h i j l m (suc (suc (suc (suc (suc zero))))) o = f
twelve P a b c d e f g h i j l m (suc (suc (suc (suc (suc (suc zero)))))) o = g
twelve P a b c d e f g h i j l m (suc (suc (suc (suc (suc (suc (suc zero))))))) o = h
twelve P a b c d e f g h i j l m (suc (suc (suc (suc (suc (suc (suc (suc zero)))))))) o = i
twelve P a b c d e f g h i j l m (suc (suc (suc (suc (suc (suc (suc (suc (suc zero))))))))) o = j
twelve P a b c d e f g h i j l m (suc (suc (suc (suc (suc (suc (suc (suc (suc (suc zero)))))))))) o = l
twelve P a b c d e f g h i j l m (suc (suc (suc (suc (suc (suc (suc (suc (suc (suc (suc zero))))))))))) o = m
twelve P a b c d e f g h i j l m (suc (suc (suc (suc (suc (suc (suc (suc (suc (suc (suc (suc n)))))))))))) o = absurd (omega arith)

-- ---- the months' lengths

february : (leap : Bool) → (28 ≤ cond leap 29 28) × (cond leap 29 28 ≤ 29)
february true = (omega arith, omega arith)
february false = (omega arith, omega arith)

-- a month has 28 to 31 days
pub length_range : (year k : ℕ) → k < 12 → (28 ≤ month_length year (k + 1)) × (month_length year (k + 1) ≤ 31)
unfolding month_length
length_range year =
    let long : (28 ≤ 31) × (31 ≤ 31) = (omega arith, omega arith) in
    let short : (28 ≤ 30) × (30 ≤ 31) = (omega arith, omega arith) in
    twelve (λ k. (28 ≤ month_length year (k + 1)) × (month_length year (k + 1) ≤ 31)) long ((february (is_leap year)).0, omega (arith, (february (is_leap year)).1)) long short long short long long short long
    short long

pub second : (year : ℕ) (leap : Bool) → is_leap year ≡ leap → cond leap 29 28 ≡ month_length year 2
unfolding month_length
second year leap e = rw e

pub leap_second : (year month : ℕ) → month ≡ 2 → is_leap year ≡ true → 29 ≡ month_length year month
leap_second year month m e = rw m (second year true e)

pub plain_second : (year month : ℕ) → month ≡ 2 → is_leap year ≡ false → 28 ≡ month_length year month
plain_second year month m e = rw m (second year false e)

-- the other eleven, as the code has them
eleven : (year k : ℕ) → k < 12 → (k + 1 ≡ 2 → ⊥) → 30 + (k + 1 + (k + 1) / 8) % 2 ≡ month_length year (k + 1)
unfolding month_length
eleven year =
    twelve (λ k. (k + 1 ≡ 2 → ⊥) → 30 + (k + 1 + (k + 1) / 8) % 2 ≡ month_length year (k + 1)) (λ o. refl) (λ o. absurd (o refl)) (λ o. refl) (λ o. refl) (λ o. refl)
    (λ o. refl) (λ o. refl) (λ o. refl) (λ o. refl) (λ o. refl) (λ o. refl) (λ o. refl)

pub other_months : (year month : ℕ) → 1 ≤ month → month ≤ 12 → (month ≡ 2 → ⊥) → 30 + (month + month / 8) % 2 ≡ month_length year month
other_months year month low high o =
    let e : month - 1 + 1 ≡ month = omega arith in
    rw e at (eleven year (month - 1) (omega arith) (λ z. o (sym e ∙ z)))

pub december : (year : ℕ) → 31 ≤ month_length year 12
unfolding month_length
december year = omega arith

-- a year has 365 days, or 366
pub year_length : (year : ℕ) → sum_to (λ k. month_length year (k + 1)) 12 ≡ cond (is_leap year) 366 365
unfolding sum_to month_length
year_length year = by (is_leap year)
  where
    by : (leap : Bool) → 31 + cond leap 29 28 + 31 + 30 + 31 + 30 + 31 + 31 + 30 + 31 + 30 + 31 ≡ cond leap 366 365
    by true = refl
    by false = refl

-- ---- what makes a day

pub record Date (date : ℕ) : Type 0 where
  pub year_low : 1980 ≤ year_of date
  pub year_high : year_of date ≤ 2100
  pub month_low : 1 ≤ month_of date
  pub month_high : month_of date ≤ 12
  pub day_low : 1 ≤ day_of date
  pub day_high : day_of date ≤ month_length (year_of date) (month_of date)

pub is_date : (date : ℕ) → no_day date ≡ false → Date date
unfolding no_day
is_date date e =
    let y = outside 1980 2100 (year_of date) in
    let m = outside 1 12 (month_of date) in
    let d = outside 1 (month_length (year_of date) (month_of date)) (day_of date) in
    let l = or_false_left (y || m) d e in
    let r = or_false_right (y || m) d e in
    record {
      year_low = inside_low 1980 2100 (year_of date) (or_false_left y m l);
      year_high = inside_high 1980 2100 (year_of date) (or_false_left y m l);
      month_low = inside_low 1 12 (month_of date) (or_false_right y m l);
      month_high = inside_high 1 12 (month_of date) (or_false_right y m l);
      day_low = inside_low 1 (month_length (year_of date) (month_of date)) (day_of date) r;
      day_high = inside_high 1 (month_length (year_of date) (month_of date)) (day_of date) r;
    }

pub date_is : (date : ℕ) → Date date → no_day date ≡ false
unfolding no_day
date_is date p =
    rw (
      inside 1980 2100 (year_of date) p.year_low p.year_high,
      inside 1 12 (month_of date) p.month_low p.month_high,
      inside 1 (month_length (year_of date) (month_of date)) (day_of date) p.day_low p.day_high,
    )
