-- Joining two runs (SPECIFICATION, "Joining"; document 02, job 6).
-- Assumes nothing.
use Rattle.std.specs.Prelude.{ℕ, zero, suc, ◌+◌, not, cond, List, [], ◌∷◌, eqb, ltb}
use Rattle.units.specs.declared.Grams.{Grams}
use Rattle.units.specs.declared.VehicleKm.{VehicleKm}
use Rattle.units.specs.Lists.{tab}
use Rattle.units.specs.Grounds.{Ground, ground, first_fit}
use Rattle.inventory.specs.declared.Run.{Run}
use Rattle.inventory.specs.declared.Amount.{Amount}
use Rattle.inventory.specs.Order.{in_order, same_head, sum_at, km_in, record_limit}
use Rattle.inventory.specs.Adding.{billionths, with_totals}

-- the grounds of joining, in their order: 16 of either run, 21, 22
unfoldable pub join_grounds : Run → Run → List Ground
join_grounds a b =
    ground 16 (not (in_order a)) ∷ ground 16 (not (in_order b)) ∷ ground 21 (not (same_head a b)) ∷ ground 22 (ltb record_limit (a.count + b.count)) ∷ []

-- the number of a join: 0 where it is taken
unfoldable pub join_number : Run → Run → ℕ
join_number a b = first_fit (join_grounds a b)

-- the sum j of both, exactly
unfoldable pub slot_joined : Run → Run → ℕ → Amount
slot_joined a b j = billionths (sum_at a j + sum_at b j)

abbrev pub grams_joined : Run → Run → ℕ → Grams
grams_joined a b j = (slot_joined a b j).grams

abbrev pub rest_joined : Run → Run → ℕ → ℕ
rest_joined a b j = (slot_joined a b j).rest

-- the kilometres of a fuel in both
unfoldable pub km_joined : Run → Run → ℕ → VehicleKm
km_joined a b fuel = record { 0 = km_in a fuel + km_in b fuel }

-- one L and X, and count, kilometres and sums of both added up; the totals are still those of the first
unfoldable pub added_up : Run → Run → Run
added_up a b =
    record {
      trip = a.trip;
      x = a.x;
      count = a.count + b.count;
      km = tab (km_joined a b) 3;
      grams = tab (grams_joined a b) 60;
      rests = tab (rest_joined a b) 60;
      total_grams = a.total_grams;
      total_rests = a.total_rests;
    }

-- the run of both
unfoldable pub joined : Run → Run → Run
joined a b = with_totals (added_up a b)

-- the run that joining gives back: the first where the join is refused
unfoldable pub join_run : Run → Run → Run
join_run a b = cond (eqb (join_number a b) 0) (joined a b) a

-- the runs 0 to n joined in order, each to what the one before it gave back
unfoldable pub joined_to : (ℕ → Run) → ℕ → Run
joined_to runs zero = runs 0
joined_to runs (suc n) = join_run (joined_to runs n) (runs (suc n))
