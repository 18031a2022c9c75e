-- Each call has the number that the conditions of specs/Conditions give. Assumes nothing.
use mathlib.Core.Path.{◌≡◌, refl, sym, ap, ◌∙◌}
use mathlib.Core.Bool.{Bool, true, false, not, cond, ◌&&◌, ◌||◌}
use mathlib.Core.List.{List, [], ◌∷◌, ◌++◌}
use Prim.Native.Nat.{ℕ, zero, suc, ◌+◌, ◌-◌, ◌%◌, ◌≤◌, ◌<◌}
use native.Mathlib.Omega.{arith}
use borrow.Author.Tests.{lt-ltb, le-ltb, leb-true, leb-false, eqb-true, eq-eqb}
use lib.Dec.{eqb, leb, ltb}
use lib.IntN.{ℤ, pos, negsuc, neg_ℤ}
use lib.ListN.{length, get_or}
use lib.Signed.{le_z, lt_z}
use Rattle.units.specs.Lists.{all_below}
use Rattle.units.specs.Grounds.{ground, first_fit, outside}
use Rattle.units.proofs.Tests.{inside_low, inside_high}
use Rattle.calendar.specs.declared.Period.{Period}
use Rattle.calendar.specs.declared.Period.TheVariants as period
use Rattle.calendar.specs.Calendar.{is_leap, month_length, year_of, month_of, day_of, no_day}
use Rattle.calendar.specs.Periods.{day_missing, order_wrong, period_grounds}
use Rattle.calendar.proofs.Months.{twelve}
use Rattle.coldstart.specs.ColdStart.{temperature_ok}
use Rattle.inventory.specs.declared.Head.{Head}
use Rattle.inventory.specs.declared.Record.{Record}
use Rattle.inventory.specs.declared.Run.{Run}
use Rattle.inventory.specs.Records.{temperatures_wrong, head_grounds, vehicle_km, shares_wrong, speeds_wrong, record_grounds}
use Rattle.inventory.specs.Order.{in_order, same_head}
use Rattle.inventory.specs.Opening.{open_number}
use Rattle.inventory.specs.Adding.{add_grounds, add_number}
use Rattle.inventory.specs.Printed.{answered, total_grounds, total_of}
use Rattle.joins.specs.Joining.{join_grounds, join_number}
use Rattle.balance.specs.Balance.{balance_ratio, sold_grounds, balance_grounds, balance_number, balance_of, printed_fuel}
use Rattle.listing.specs.Report.{report_bytes, report_grounds, report_number, report_of}
use Rattle.accuracy.specs.Conditions.{trip_out, month_out, some_out, leap_year, days_of_month, date_out, day_out, no_such_day, wrong_order, opening_number, class_out, vehicles_out, km_out, distance_out, shares_out, speed_out, run_full, fuel_or_quantity_out, no_fuel_used, sold_fuel_out, buffer_short, record_else, record_number, head_x, some_xdiffers, heads_differ, full_together, joining_number}
use Rattle.accuracy.specs.Claim.{fuel_total}

-- ---- opening

not_leb : (a b : ℕ) → not (leb a b) ≡ ltb b a
not_leb a b = by (leb a b) refl
  where
    by : (t : Bool) → leb a b ≡ t → not t ≡ ltb b a
    by true e = sym (le-ltb b a (leb-true a b e))
    by false e = sym (lt-ltb b a (leb-false a b e))

not_le_z : (a b : ℤ) → not (le_z a b) ≡ lt_z b a
not_le_z (pos a) (pos b) = not_leb a b
not_le_z (pos a) (negsuc b) = refl
not_le_z (negsuc a) (pos b) = refl
not_le_z (negsuc a) (negsuc b) = not_leb b a

not_and : (a b : Bool) → not (a && b) ≡ (not a || not b)
not_and true b = refl
not_and false b = refl

month : (t : ℤ) → not (temperature_ok t) ≡ month_out t
unfolding temperature_ok month_out
month t = not_and (le_z (neg_ℤ (pos 300)) t) (le_z t (pos 400)) ∙ (λ i. not_le_z (neg_ℤ (pos 300)) t i || not_le_z t (pos 400) i)

months : (ts : List ℤ) (n : ℕ) → not (all_below (λ k. temperature_ok (get_or ts k (pos 0))) n) ≡ some_out n ts
unfolding all_below some_out
months ts zero = refl
months ts (suc n) =
    not_and (all_below (λ k. temperature_ok (get_or ts k (pos 0))) n) (temperature_ok (get_or ts n (pos 0))) ∙ (λ i. months ts n i || month (get_or ts n (pos 0)) i)

-- the calendar
leap_by : (year : ℕ) (a : Bool) → eqb (year % 100) 0 ≡ a → (eqb (year % 4) 0 && (not a || eqb (year % 400) 0)) ≡ cond a (eqb (year % 400) 0) (eqb (year % 4) 0)
leap_by year true e = let c = eqb-true (year % 100) 0 e in rw (eq-eqb (year % 4) 0 (omega arith))
leap_by year false e = by (eqb (year % 4) 0)
  where
    by : (b : Bool) → (b && (true || eqb (year % 400) 0)) ≡ b
    by true = refl
    by false = refl

leap : (year : ℕ) → is_leap year ≡ leap_year year
unfolding is_leap leap_year
leap year = leap_by year (eqb (year % 100) 0) refl

month_days : (year k : ℕ) → k < 12 → month_length year (k + 1) ≡ days_of_month year (k + 1)
unfolding month_length days_of_month
month_days year =
    twelve (λ k. month_length year (k + 1) ≡ days_of_month year (k + 1)) refl (ap (λ b. cond b 29 28) (leap year)) refl refl refl refl refl refl refl refl refl refl

date_by : (year month day : ℕ) (b : Bool) → outside 1 12 month ≡ b
    → (outside 1980 2100 year || b || outside 1 (month_length year month) day) ≡ (outside 1980 2100 year || b || outside 1 (days_of_month year month) day)
date_by year month day true e = by (outside 1980 2100 year)
  where
    by : (a : Bool) → (a || true || outside 1 (month_length year month) day) ≡ (a || true || outside 1 (days_of_month year month) day)
    by true = refl
    by false = refl
date_by year month day false e =
    let low : 1 ≤ month = inside_low 1 12 month e in
    let high : month ≤ 12 = inside_high 1 12 month e in
    let m : month - 1 + 1 ≡ month = omega arith in
    ap (λ n. outside 1980 2100 year || false || outside 1 n day) (rw m at (month_days year (month - 1) (omega arith)))

date : (d : ℕ) → no_day d ≡ day_out d
unfolding no_day date_out outside
date d = date_by (year_of d) (month_of d) (day_of d) (outside 1 12 (month_of d)) refl

no_such_day_lem : (p : Period) → day_missing p ≡ no_such_day p
unfolding no_such_day
no_such_day_lem period.Year = refl
no_such_day_lem (period.Days d) = rw (date d.first, date d.last)

wrong_order_lem : (p : Period) → order_wrong p ≡ wrong_order p
unfolding wrong_order
wrong_order_lem period.Year = refl
wrong_order_lem (period.Days d) = refl

pub opening : (head : Head) → open_number head ≡ opening_number head
unfolding open_number head_grounds period_grounds first_fit outside temperatures_wrong opening_number trip_out
opening head = rw (months head.temps 12, no_such_day_lem head.period, wrong_order_lem head.period)

-- ---- on a run in order a call has the first of its own numbers that fits

-- two grounds of one number
two : (n : ℕ) (a b : Bool) (r : ℕ) → cond a n (cond b n r) ≡ cond (a || b) n r
two n true b r = refl
two n false b r = refl

-- g is asked of F as the run gives it, which is 0 for a fuel out of range
by_fuel : (n : ℕ) (a b : Bool) (f : ℕ) (g : ℕ → ℕ) → cond a n (cond b n (g f)) ≡ cond (a || b) n (g (cond (eqb (cond a 11 0) 0) f 0))
by_fuel n true b f g = refl
by_fuel n false true f g = refl
by_fuel n false false f g = refl

-- a record's own grounds, then a last one
pub record_else_lem : (rec : Record) (k : ℕ) (b : Bool) → first_fit (record_grounds rec ++ (ground k b ∷ [])) ≡ record_else (cond b k 0) rec
unfolding record_grounds first_fit outside vehicle_km shares_wrong speeds_wrong record_else class_out vehicles_out km_out distance_out shares_out speed_out
record_else_lem rec k b = refl

module _ (run : Run) (order : in_order run ≡ true) where
  pub adds : (rec : Record) → add_number run rec ≡ record_number run.count rec
  unfolding add_number add_grounds first_fit record_number run_full
  adds rec = rw order (record_else_lem rec 9 (leb 5000 run.count))

  pub totals : (fuel quantity : ℕ) → (total_of run fuel quantity).number ≡ cond (fuel_or_quantity_out fuel quantity) 11 0
  unfolding total_of answered total_grounds first_fit outside fuel_or_quantity_out
  totals fuel quantity = rw order (two 11 (outside 1 3 fuel) (outside 1 5 quantity) 0)

  pub reports : (buffer : List ℕ) → (report_of run buffer).number ≡ cond (buffer_short (length buffer) (length (report_bytes run))) 14 0
  unfolding report_of report_number report_grounds first_fit buffer_short
  reports buffer = rw order

  pub balances : (fuel quantity s : ℕ) → (balance_of run fuel quantity s).number
      ≡ cond (fuel_or_quantity_out fuel quantity) 11 (cond (no_fuel_used (fuel_total run fuel)) 12 (cond (sold_fuel_out s (fuel_total run fuel)) 13 0))
  unfolding balance_of balance_number balance_grounds sold_grounds balance_ratio total_of answered total_grounds first_fit outside fuel_or_quantity_out no_fuel_used sold_fuel_out
  balances fuel quantity s =
      rw (order, two 13 (ltb 999999999 s) (outside 500000 1500000 (balance_ratio s (printed_fuel run (fuel - 1)))) 0)
      (by_fuel 11 (outside 1 3 fuel) (outside 1 5 quantity) (printed_fuel run (fuel - 1)) (λ f. cond (no_fuel_used f) 12 (cond (sold_fuel_out s f) 13 0)))

-- ---- joining

xs_differ : (xs ys : List ℕ) (n : ℕ) → not (all_below (λ i. eqb (get_or xs i 0) (get_or ys i 0)) n) ≡ some_xdiffers n xs ys
unfolding all_below some_xdiffers
xs_differ xs ys zero = refl
xs_differ xs ys (suc n) =
    not_and (all_below (λ i. eqb (get_or xs i 0) (get_or ys i 0)) n) (eqb (get_or xs n 0) (get_or ys n 0))
    ∙ ap (λ b. b || not (eqb (get_or xs n 0) (get_or ys n 0))) (xs_differ xs ys n)

-- two runs with the L and X of two heads
module _ (a b : Run) (p q : Head) (t : a.trip ≡ p.trip) (x : a.x ≡ head_x p) (u : b.trip ≡ q.trip) (y : b.x ≡ head_x q) where
  pub heads_differ_lem : not (same_head a b) ≡ heads_differ p q
  unfolding same_head heads_differ
  heads_differ_lem =
      rw (t, x, u, y)
      (not_and (eqb p.trip q.trip) (all_below (λ i. eqb (get_or (head_x p) i 0) (get_or (head_x q) i 0)) 16)
      ∙ ap (λ b. not (eqb p.trip q.trip) || b) (xs_differ (head_x p) (head_x q) 16))

  -- in order, heads and counts decide
  pub joining : in_order a ≡ true → in_order b ≡ true → join_number a b ≡ joining_number p q a.count b.count
  unfolding join_number join_grounds first_fit joining_number full_together
  joining o r = rw (o, r, heads_differ_lem)
