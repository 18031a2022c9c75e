-- The bounds of accepted records and of runs in order that keep every step of the code in 64 bits: what inner functions require;
-- and the lengths of a run's arrays.
-- Assumes nothing.
use Rattle.std.specs.Prelude.{ℕ, ◌/◌, ◌%◌, ◌≤◌, ◌<◌, ◌≡◌, List, length, get_or}
use Rattle.classes.specs.Classes.{x_count}
use Rattle.factors.specs.Factors.{Driven}
use Rattle.coldstart.specs.ColdStart.{x_most}
use Rattle.inventory.specs.declared.Amount.{Amount}
use Rattle.inventory.specs.declared.Record.{Record}
use Rattle.inventory.specs.declared.Run.{Run}
use Rattle.inventory.specs.Records.{vehicle_km, share_of, speed_of}
use Rattle.inventory.specs.Order.{grams_in, rest_in, km_in, exact_total, total_grams_in, total_rest_in, stored_total, record_limit}

-- a record that no ground of its own fits
pub record RecordLimits (rec : Record) : Type 0 where
  pub distance : vehicle_km rec ≤ 1000000000
  pub share : (road : ℕ) → road < 3 → share_of rec road ≤ 100
  pub driven : (road : ℕ) → road < 3 → Driven rec.class (speed_of rec road)

-- each X is at most 4,900,000,000
abbrev pub XLimits : List ℕ → Type 0
XLimits xs = (i : ℕ) → i < x_count → get_or xs i 0 ≤ x_most

-- a sum of a run in order, of which four are a total
pub record SumLimits (a : Amount) : Type 0 where
  pub grams : a.grams.0 ≤ 5000000000000000
  pub rest : a.rest < 1000000000

-- a sum or a total of a run in order: whole grams and a rest
pub record AmountLimits (a : Amount) : Type 0 where
  pub grams : a.grams.0 ≤ 20000000000000000
  pub rest : a.rest < 1000000000

-- a run in order, but for its totals
pub record RunLimits (run : Run) : Type 0 where
  pub few : run.count ≤ record_limit
  pub x_most_lem : XLimits run.x
  pub rest_below : (j : ℕ) → j < 60 → rest_in run j < 1000000000
  pub grams_most : (j : ℕ) → j < 60 → grams_in run j ≤ 5000000000000000
  pub km_most : (fuel : ℕ) → fuel < 3 → km_in run fuel ≤ 5000000000000

-- the stored totals of a run in order
pub record TotalLimits (run : Run) : Type 0 where
  pub rest_below : (k : ℕ) → k < 15 → total_rest_in run k < 1000000000
  pub grams_most : (k : ℕ) → k < 15 → total_grams_in run k ≤ 20000000000000000
  pub exact : (k : ℕ) → k < 15 → stored_total run k ≡ exact_total run (k / 5) (k % 5)

-- every run of the type: its arrays have their lengths
pub record Shaped (run : Run) : Type 0 where
  pub xs : length run.x ≡ x_count
  pub kms : length run.km ≡ 3
  pub grams : length run.grams ≡ 60
  pub rests : length run.rests ≡ 60
  pub total_grams : length run.total_grams ≡ 15
  pub total_rests : length run.total_rests ≡ 15
