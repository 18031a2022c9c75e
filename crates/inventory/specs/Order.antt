-- The run, and when it is in order (SPECIFICATION, "The run").
-- Assumes nothing.
use Rattle.std.specs.Prelude.{ℕ, ◌+◌, ◌*◌, ◌/◌, ◌%◌, Bool, not, ◌&&◌, leb, ltb, eqb, get_or}
use Rattle.units.specs.Lists.{all_below}
use Rattle.units.specs.Grounds.{outside}
use Rattle.classes.specs.Classes.{x_count}
use Rattle.coldstart.specs.ColdStart.{x_most}
use Rattle.inventory.specs.declared.Amount.{Amount}
use Rattle.inventory.specs.declared.Run.{Run}

-- an amount in billionths of a gram
abbrev pub in_billionths : Amount → ℕ
in_billionths a = a.grams.0 * 1000000000 + a.rest

-- the whole grams of the sum j = fuel × 20 + quantity × 4 + kind
abbrev pub grams_in : Run → ℕ → ℕ
grams_in run j = (get_or run.grams j (record { 0 = 0 })).0

-- its rest in billionths of a gram
abbrev pub rest_in : Run → ℕ → ℕ
rest_in run j = get_or run.rests j 0

-- the kilometres of a fuel
abbrev pub km_in : Run → ℕ → ℕ
km_in run fuel = (get_or run.km fuel (record { 0 = 0 })).0

-- the sum j with its rest, in billionths of a gram
unfoldable pub sum_at : Run → ℕ → ℕ
sum_at run j = grams_in run j * 1000000000 + rest_in run j

-- the place of a sum; fuel and quantity count from 0 here
abbrev pub place : ℕ → ℕ → ℕ → ℕ
place fuel quantity kind = fuel * 20 + quantity * 4 + kind

-- the exact sum of the four kinds, in billionths of a gram
unfoldable pub exact_total : Run → ℕ → ℕ → ℕ
exact_total run fuel quantity =
    sum_at run (place fuel quantity 0) + sum_at run (place fuel quantity 1) + sum_at run (place fuel quantity 2) + sum_at run (place fuel quantity 3)

-- the whole grams of the stored total k = fuel × 5 + quantity
abbrev pub total_grams_in : Run → ℕ → ℕ
total_grams_in run k = (get_or run.total_grams k (record { 0 = 0 })).0

-- its rest in billionths of a gram
abbrev pub total_rest_in : Run → ℕ → ℕ
total_rest_in run k = get_or run.total_rests k 0

-- the stored total k with its rest, in billionths of a gram
abbrev pub stored_total : Run → ℕ → ℕ
stored_total run k = total_grams_in run k * 1000000000 + total_rest_in run k

-- a run takes at most so many records
abbrev pub record_limit : ℕ
record_limit = 5000

abbrev pub x_ok : Run → ℕ → Bool
x_ok run i = leb (get_or run.x i 0) x_most

-- the rest r is below its limit, and g grams with it are at most so many grams
unfoldable pub sum_within : ℕ → ℕ → ℕ → Bool
sum_within limit g r = ltb r 1000000000 && leb (g * 1000000000 + r) (limit * 1000000000)

-- each sum with its rest is at most 10^12 g × count
abbrev pub sum_ok : Run → ℕ → Bool
sum_ok run j = sum_within (1000000000000 * run.count) (grams_in run j) (rest_in run j)

abbrev pub km_ok : Run → ℕ → Bool
km_ok run fuel = leb (km_in run fuel) (1000000000 * run.count)

-- the rest r is below its limit, and g grams with it are exactly n billionths of a gram
unfoldable pub is_amount : ℕ → ℕ → ℕ → Bool
is_amount n g r = ltb r 1000000000 && eqb (g * 1000000000 + r) n

-- each stored total with its rest is the exact sum of its four kinds
abbrev pub total_ok : Run → ℕ → Bool
total_ok run k = is_amount (exact_total run (k / 5) (k % 5)) (total_grams_in run k) (total_rest_in run k)

-- all sums, and all totals
abbrev pub sums_ok : Run → Bool
sums_ok run = all_below (sum_ok run) 60 && all_below (total_ok run) 15

unfoldable pub in_order : Run → Bool
in_order run =
    not (outside 10 200 run.trip) && all_below (x_ok run) x_count && leb run.count record_limit && sums_ok run && all_below (km_ok run) 3

abbrev pub same_x : Run → Run → ℕ → Bool
same_x a b i = eqb (get_or a.x i 0) (get_or b.x i 0)

-- the same L and the same X
unfoldable pub same_head : Run → Run → Bool
same_head a b = eqb a.trip b.trip && all_below (same_x a b) x_count
