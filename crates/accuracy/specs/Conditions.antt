-- The conditions of SPECIFICATION, "Refusals", number by number in its words, over plain numbers, periods and heads.
-- They are written out apart from the lists of grounds that the calls go by, so that a wrong ground there breaks the claim.
-- Assumes nothing.
use Rattle.std.specs.Prelude.{ℕ, zero, suc, ◌+◌, ◌*◌, ◌/◌, ◌%◌, Bool, false, not, cond, ◌||◌, List, leb, ltb, eqb, ℤ, pos, neg_ℤ, get_or}
use Rattle.std.specs.Int.Signed.{lt_z}
use Rattle.units.specs.Rounding.{half_up}
use Rattle.calendar.specs.declared.Period.{Period}
use Rattle.calendar.specs.declared.Period.TheVariants as period
use Rattle.coldstart.specs.ColdStart.{cold_values}
use Rattle.inventory.specs.declared.Head.{Head}
use Rattle.inventory.specs.declared.Record.{Record}

-- 1: L below 10 or above 200
unfoldable pub trip_out : ℕ → Bool
trip_out l = ltb l 10 || ltb 200 l

-- a T below -300 or above 400
unfoldable pub month_out : ℤ → Bool
month_out t = lt_z t (neg_ℤ (pos 300)) || lt_z (pos 400) t

-- one of the first n temperatures is out of range
unfoldable pub some_out : ℕ → List ℤ → Bool
some_out zero ts = false
some_out (suc n) ts = some_out n ts || month_out (get_or ts n (pos 0))

-- 2: a T of the twelve is out of range
abbrev pub temperature_out : List ℤ → Bool
temperature_out ts = some_out 12 ts

-- every fourth year is a leap year; of the centuries, those that 400 divides
unfoldable pub leap_year : ℕ → Bool
leap_year year = cond (eqb (year % 100) 0) (eqb (year % 400) 0) (eqb (year % 4) 0)

-- February has 28 days, 29 in a leap year; April, June, September and November have 30; the others 31
unfoldable pub days_of_month : ℕ → ℕ → ℕ
days_of_month year month =
    cond (eqb month 2) (cond (leap_year year) 29 28) (cond (eqb month 4 || eqb month 6 || eqb month 9 || eqb month 11) 30 31)

-- the year below 1980 or above 2100, no such month, or no such day in it
unfoldable pub date_out : ℕ → ℕ → ℕ → Bool
date_out year month day = (ltb year 1980 || ltb 2100 year) || (ltb month 1 || ltb 12 month) || (ltb day 1 || ltb (days_of_month year month) day)

-- a day as it is written is year × 10,000 + month × 100 + day
abbrev pub day_out : ℕ → Bool
day_out date = date_out (date / 10000) (date / 100 % 100) (date % 100)

-- 19: the first or the last is no such day or year; a head without dates has none
unfoldable pub no_such_day : Period → Bool
no_such_day period.Year = false
no_such_day (period.Days d) = day_out d.first || day_out d.last

-- 20: the last day before the first, or in another year
unfoldable pub wrong_order : Period → Bool
wrong_order period.Year = false
wrong_order (period.Days d) = ltb d.last d.first || not (eqb (d.first / 10000) (d.last / 10000))

-- the number of opening: the first of 1, 2, 19 and 20 that fits the head, else 0
unfoldable pub opening_number : Head → ℕ
opening_number head =
    cond (trip_out head.trip) 1 (cond (temperature_out head.temps) 2 (cond (no_such_day head.period) 19 (cond (wrong_order head.period) 20 0)))

-- 3: class not 1 to 7
unfoldable pub class_out : ℕ → Bool
class_out class = ltb class 1 || ltb 7 class

-- 4: vehicles below 1 or above 1,000,000
unfoldable pub vehicles_out : ℕ → Bool
vehicles_out vehicles = ltb vehicles 1 || ltb 1000000 vehicles

-- 5: km below 1 or above 999,999
unfoldable pub km_out : ℕ → Bool
km_out km = ltb km 1 || ltb 999999 km

-- 6: K = vehicles × km over 1,000,000,000
unfoldable pub distance_out : ℕ → ℕ → Bool
distance_out vehicles km = ltb 1000000000 (vehicles * km)

-- 7: a share over 100, or their sum not 100
unfoldable pub shares_out : ℕ → ℕ → ℕ → Bool
shares_out urban rural highway = ltb 100 urban || ltb 100 rural || ltb 100 highway || not (eqb (urban + rural + highway) 100)

-- 8: a speed below 10 or above 130
unfoldable pub speed_out : ℕ → Bool
speed_out v = ltb v 10 || ltb 130 v

-- 9: the run has 5,000 records
unfoldable pub run_full : ℕ → Bool
run_full count = leb 5000 count

-- 11: fuel not 1 to 3 or quantity not 1 to 5
unfoldable pub fuel_or_quantity_out : ℕ → ℕ → Bool
fuel_or_quantity_out fuel quantity = (ltb fuel 1 || ltb 3 fuel) || (ltb quantity 1 || ltb 5 quantity)

-- 12: F is 0
unfoldable pub no_fuel_used : ℕ → Bool
no_fuel_used f = eqb f 0

-- k = S × 10^12 / F, half up
abbrev pub sold_ratio : ℕ → ℕ → ℕ
sold_ratio s f = half_up (s * 1000000000000) f

-- 13: S over 999,999,999, or k below 500,000 or above 1,500,000
unfoldable pub sold_fuel_out : ℕ → ℕ → Bool
sold_fuel_out s f = ltb 999999999 s || (ltb (sold_ratio s f) 500000 || ltb 1500000 (sold_ratio s f))

-- 14: the buffer shorter than the report
unfoldable pub buffer_short : ℕ → ℕ → Bool
buffer_short buffer report = ltb buffer report

-- the first of 3 to 8 that fits a record, else what comes behind them
unfoldable pub record_else : ℕ → Record → ℕ
record_else behind rec =
    cond (class_out rec.class) 3
    (cond (vehicles_out rec.vehicles) 4
    (cond (km_out rec.km) 5
    (cond (distance_out rec.vehicles rec.km) 6
    (cond (shares_out rec.shares.urban rec.shares.rural rec.shares.highway) 7
    (cond (speed_out rec.speeds.urban.0 || speed_out rec.speeds.rural.0 || speed_out rec.speeds.highway.0) 8 behind)))))

-- the number of adding a record where so many were taken: the first of 3 to 8 that fits, then 9, else 0
unfoldable pub record_number : ℕ → Record → ℕ
record_number count rec = record_else (cond (run_full count) 9 0) rec

-- the sixteen X of a head, as its run holds them
abbrev pub head_x : Head → List ℕ
head_x head = cold_values head.period head.trip head.temps

-- one of the first n values X differs
unfoldable pub some_xdiffers : ℕ → List ℕ → List ℕ → Bool
some_xdiffers zero xs ys = false
some_xdiffers (suc n) xs ys = some_xdiffers n xs ys || not (eqb (get_or xs n 0) (get_or ys n 0))

-- 21: L or an X of two heads differs
unfoldable pub heads_differ : Head → Head → Bool
heads_differ p q = not (eqb p.trip q.trip) || some_xdiffers 16 (head_x p) (head_x q)

-- 22: more than 5,000 records together
unfoldable pub full_together : ℕ → ℕ → Bool
full_together m n = ltb 5000 (m + n)

-- the number of joining two runs, told from their heads and counts alone: 21, then 22, else 0
unfoldable pub joining_number : Head → Head → ℕ → ℕ → ℕ
joining_number p q m n = cond (heads_differ p q) 21 (cond (full_together m n) 22 0)
