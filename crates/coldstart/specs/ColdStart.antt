-- Cold starts (SPECIFICATION, "Cold starts").
-- Assumes nothing.
use Rattle.std.specs.Prelude.{ℕ, ◌+◌, ◌*◌, ◌/◌, ◌%◌, ◌≤◌, ◌<◌, Bool, true, cond, ◌&&◌, ◌≡◌, List, [], ◌∷◌, ℤ, pos, negsuc, neg_ℤ, nat_abs, ◌-ℤ◌, ◌*ℤ◌, ltb, get_or}
use Rattle.std.specs.Int.Signed.{le_z}
use Rattle.units.specs.Lists.{tab, sum_to}
use Rattle.units.specs.Rounding.{half_up}
use Rattle.classes.specs.Classes.{beta_reduction, x_count}
use Rattle.calendar.specs.declared.Period.{Period}
use Rattle.calendar.specs.Periods.{month_weight, period_weight}

-- l is the mean trip length L in tenths of km, t a monthly mean temperature T in tenths of a degree;
-- a fuel is 0 gasoline, 1 diesel, 2 LPG, a quantity 0 CO, 1 NOX, 2 VOC, 3 PM, 4 FC

-- a temperature from -300 to 400
unfoldable pub temperature_ok : ℤ → Bool
temperature_ok t = le_z (neg_ℤ (pos 300)) t && le_z t (pos 400)

-- B = 64,700,000 - 250,000L - (97,400 - 385L)T, the cold share of the distance in 1/100,000,000
unfoldable pub cold_share : ℕ → ℤ → ℤ
cold_share l t = pos 64700000 -ℤ pos 250000 *ℤ pos l -ℤ (pos 97400 -ℤ pos 385 *ℤ pos l) *ℤ t

-- p and q of the ratio cold to hot
pub record Slope : Type 0 where
  pub p : ℕ
  pub q : ℕ

abbrev pub slope : ℕ → ℕ → Slope
slope p q = record { p = p; q = q }

-- for each fuel CO, NOX, VOC, PM, FC; an entry that is none is 0, 0, whose excess is cut to 0
unfoldable pub slopes : List Slope
slopes =
    slope 37000 90 ∷ slope 11400 6 ∷ slope 28000 60 ∷ slope 0 0 ∷ slope 14700 9
    ∷ slope 19000 30 ∷ slope 13000 13 ∷ slope 31000 90 ∷ slope 31000 100 ∷ slope 13400 8
    ∷ slope 36600 90 ∷ slope 9800 6 ∷ slope 22400 60 ∷ slope 0 0 ∷ slope 14700 9
    ∷ []

-- the entries as pairs of numbers, as a table of the code has them
unfoldable pub pairs : List Slope → List (List ℕ)
pairs [] = []
pairs (s ∷ ss) = (s.p ∷ s.q ∷ []) ∷ pairs ss

-- an entry for which Q is at most 54,000 from -300 to 400
pub record SlopeLimits (s : Slope) : Type 0 where
  pub at_zero : s.p ≤ 37000
  pub fall : s.q ≤ 100
  pub cold : s.p + 300 * s.q ≤ 64000

-- the entry of a fuel and a quantity
abbrev pub slope_of : ℕ → ℕ → Slope
slope_of fuel quantity = get_or slopes (fuel * 5 + quantity) (slope 0 0)

-- the ratio cold to hot, p - qT, in 1/10,000
unfoldable pub cold_ratio : Slope → ℤ → ℤ
cold_ratio s t = pos s.p -ℤ pos s.q *ℤ t

-- a signed number, or 0 if it is negative
abbrev pub or_zero : ℤ → ℕ
or_zero (pos n) = n
or_zero (negsuc n) = 0

-- Q: the ratio less 10,000, or 0 if that is negative
unfoldable pub cold_excess : Slope → ℤ → ℕ
cold_excess s t = or_zero (cold_ratio s t -ℤ pos 10000)

-- B × Q of one month; B is not negative inside the limits of a head
unfoldable pub month_product : ℕ → Slope → ℤ → ℕ
month_product l s t = nat_abs (cold_share l t) * cold_excess s t

-- B × Q of month k
abbrev pub month_at : ℕ → Slope → List ℤ → ℕ → ℕ
month_at l s ts k = month_product l s (get_or ts k (pos 0))

-- what month k weighs in the period, times its B × Q
abbrev pub weighed_at : Period → ℕ → Slope → List ℤ → ℕ → ℕ
weighed_at period l s ts k = month_weight period k * month_at l s ts k

-- the sum of weight × B × Q over the twelve months of a fuel and a quantity; without dates each month weighs 1
unfoldable pub cold_sum : Period → ℕ → List ℤ → ℕ → ℕ → ℕ
cold_sum period l ts fuel quantity = sum_to (weighed_at period l (slope_of fuel quantity) ts) 12

-- what such a sum is divided by: 1,000 × the weight of the period, which is 12 without dates, else its days
abbrev pub cold_denominator : ℕ → ℕ
cold_denominator weight = 1000 * weight

-- what it is divided by where a reduction factor in hundredths multiplies it
abbrev pub x_denominator : ℕ → ℕ
x_denominator weight = cold_denominator weight * 100

-- X at the place i of a run, from the sums by fuel × 5 + quantity: a sum over 1,000 × weight, half up;
-- behind the fifteen CO of class 3, the sum of gasoline CO times 72, over 100,000 × weight, half up
unfoldable pub x_from : ℕ → (ℕ → ℕ) → ℕ → ℕ
x_from weight sum i =
    cond (ltb i 15) (half_up (sum i) (cold_denominator weight)) (half_up (sum 0 * beta_reduction 3 0) (x_denominator weight))

-- X of a head at the place i
unfoldable pub cold_x : Period → ℕ → List ℤ → ℕ → ℕ
cold_x period l ts i = x_from (period_weight period) (λ j. cold_sum period l ts (j / 5) (j % 5)) i

-- each X is at most so much
abbrev pub x_most : ℕ
x_most = 4900000000

-- the values X of a head, as a run holds them
abbrev pub cold_values : Period → ℕ → List ℤ → List ℕ
cold_values period l ts = tab (cold_x period l ts) x_count

-- cold factor = E × X / 1,000,000,000, half up
unfoldable pub cold_factor : ℕ → ℕ → ℕ
cold_factor e x = half_up (e * x) 1000000000

-- a trip length and temperatures that opening takes
pub record Climate (l : ℕ) (ts : List ℤ) : Type 0 where
  pub trip_low : 10 ≤ l
  pub trip_high : l ≤ 200
  pub temperatures : (k : ℕ) → k < 12 → temperature_ok (get_or ts k (pos 0)) ≡ true

-- ---- the 15 sums of the code, which adds a month to all of them at a time

-- sums over at most twelve months of at most 31 days: they, 72 times as much and one month more stay in 64 bits
pub record SmallSums (sums : List ℕ) : Type 0 where
  pub each : (i : ℕ) → i < 15 → get_or sums i 0 ≤ 1814000000000000

-- the sum of the entry i with a month whose weight × share is b, at the temperature t
unfoldable pub with_month : List ℕ → ℕ → ℤ → ℕ → ℕ
with_month sums b t i = get_or sums i 0 + b * cold_excess (get_or slopes i (slope 0 0)) t

-- X at the place i from the code's sums over twelve months
abbrev pub x_of_sums : ℕ → List ℕ → ℕ → ℕ
x_of_sums weight sums i = x_from weight (λ j. get_or sums j 0) i
