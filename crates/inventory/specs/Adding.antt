-- Adding a record to a run (SPECIFICATION, "Hot factors", "Cold starts" and "The run").
-- Assumes nothing.
use Rattle.std.specs.Prelude.{ℕ, ◌+◌, ◌*◌, ◌/◌, ◌%◌, not, cond, List, [], ◌∷◌, ◌++◌, leb, ltb, eqb, get_or}
use Rattle.units.specs.declared.Grams.{Grams}
use Rattle.units.specs.declared.VehicleKm.{VehicleKm}
use Rattle.units.specs.Lists.{tab}
use Rattle.units.specs.Grounds.{Ground, ground, first_fit}
use Rattle.classes.specs.Classes.{fuel_of, has_cold, x_place}
use Rattle.factors.specs.Factors.{emission_factor}
use Rattle.coldstart.specs.ColdStart.{cold_factor}
use Rattle.inventory.specs.declared.Record.{Record}
use Rattle.inventory.specs.declared.Run.{Run}
use Rattle.inventory.specs.declared.Amount.{Amount}
use Rattle.inventory.specs.Records.{record_grounds, vehicle_km, share_of, speed_of}
use Rattle.inventory.specs.Order.{in_order, sum_at, exact_total, km_in, record_limit}

-- n billionths of a gram, as whole grams and a rest
unfoldable pub billionths : ℕ → Amount
billionths n = record { grams = record { 0 = n / 1000000000 }; rest = n % 1000000000 }

-- the total k = fuel × 5 + quantity of a run's sums: the exact sum of its four kinds
unfoldable pub total_made : Run → ℕ → Amount
total_made run k = billionths (exact_total run (k / 5) (k % 5))

abbrev pub total_grams_made : Run → ℕ → Grams
total_grams_made run k = (total_made run k).grams

abbrev pub total_rest_made : Run → ℕ → ℕ
total_rest_made run k = (total_made run k).rest

-- the run with the totals of its sums
unfoldable pub with_totals : Run → Run
with_totals run =
    record {
      trip = run.trip;
      x = run.x;
      count = run.count;
      km = run.km;
      grams = run.grams;
      rests = run.rests;
      total_grams = tab (total_grams_made run) 15;
      total_rests = tab (total_rest_made run) 15;
    }

-- the specification's E of a record on a road
abbrev pub factor_of : Record → ℕ → ℕ → ℕ
factor_of rec quantity road = emission_factor rec.class quantity road (speed_of rec road)

-- hot grams of one road, K × share × E / 1,000,000,000, in billionths
unfoldable pub hot_part : Record → ℕ → ℕ → ℕ
hot_part rec quantity road = vehicle_km rec * share_of rec road * factor_of rec quantity road

-- X of a class and a quantity among the values X of a run
abbrev pub x_of : List ℕ → ℕ → ℕ → ℕ
x_of xs class quantity = get_or xs (x_place class quantity) 0

-- the cold factor of a record at its urban speed, 0 for a class without a cold part; xs are the values X
unfoldable pub cold_rate : List ℕ → Record → ℕ → ℕ
cold_rate xs rec quantity =
    cond (has_cold rec.class) (cold_factor (factor_of rec quantity 0) (x_of xs rec.class quantity)) 0

-- cold grams, K × cold factor / 10,000,000, in billionths
unfoldable pub cold_part : List ℕ → Record → ℕ → ℕ
cold_part xs rec quantity = vehicle_km rec * cold_rate xs rec quantity * 100

-- what a record brings to a quantity of its fuel, by kind: 0 urban, 1 rural, 2 highway, 3 cold
unfoldable pub part_of : List ℕ → Record → ℕ → ℕ → ℕ
part_of xs rec quantity kind = cond (ltb kind 3) (hot_part rec quantity kind) (cold_part xs rec quantity)

-- what a record brings to the sum j = fuel × 20 + quantity × 4 + kind
unfoldable pub part_at : List ℕ → Record → ℕ → ℕ
part_at xs rec j = cond (eqb (j / 20) (fuel_of rec.class)) (part_of xs rec (j % 20 / 4) (j % 4)) 0

-- the sum j with a record in it
unfoldable pub slot_after : Run → Record → ℕ → Amount
slot_after run rec j = billionths (sum_at run j + part_at run.x rec j)

abbrev pub grams_after : Run → Record → ℕ → Grams
grams_after run rec j = (slot_after run rec j).grams

abbrev pub rest_after : Run → Record → ℕ → ℕ
rest_after run rec j = (slot_after run rec j).rest

-- the kilometres that a record brings to a fuel
unfoldable pub km_of : Record → ℕ → ℕ
km_of rec fuel = cond (eqb fuel (fuel_of rec.class)) (vehicle_km rec) 0

unfoldable pub km_after : Run → Record → ℕ → VehicleKm
km_after run rec fuel = record { 0 = km_in run fuel + km_of rec fuel }

-- a run with a record in its count, kilometres and sums; its totals are still those of before
unfoldable pub raised : Run → Record → Run
raised run rec =
    record {
      trip = run.trip;
      x = run.x;
      count = run.count + 1;
      km = tab (km_after run rec) 3;
      grams = tab (grams_after run rec) 60;
      rests = tab (rest_after run rec) 60;
      total_grams = run.total_grams;
      total_rests = run.total_rests;
    }

-- the run with a record in it
unfoldable pub run_with : Run → Record → Run
run_with run rec = with_totals (raised run rec)

-- the grounds of adding to a run in order with so many records: 3 to 8, then 9
abbrev pub ordered_grounds : ℕ → Record → List Ground
ordered_grounds count rec = record_grounds rec ++ (ground 9 (leb record_limit count) ∷ [])

-- the run that takes a record where none of them fits, its totals still those of before; else as it came
unfoldable pub raised_run : Run → Record → Run
raised_run run rec = cond (eqb (first_fit (ordered_grounds run.count rec)) 0) (raised run rec) run

-- the grounds of adding, in their order: 16, then 3 to 9
unfoldable pub add_grounds : Run → Record → List Ground
add_grounds run rec = ground 16 (not (in_order run)) ∷ ordered_grounds run.count rec

-- the number of an add: 0 where the record is taken
unfoldable pub add_number : Run → Record → ℕ
add_number run rec = first_fit (add_grounds run rec)

-- the run that adding gives back: as it came where the record is refused
unfoldable pub add_run : Run → Record → Run
add_run run rec = cond (eqb (add_number run rec) 0) (run_with run rec) run
