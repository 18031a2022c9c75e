-- A run changed by hand, and the numbers of a run in one row.
-- Assumes nothing.
use Rattle.std.specs.Prelude.{ℕ, ◌-◌, ◌/◌, ◌%◌, cond, eqb, ltb, get_or, set}
use Rattle.inventory.specs.declared.Run.{Run}
use Rattle.inventory.specs.Order.{grams_in, rest_in, km_in, total_grams_in, total_rest_in}

-- a run with one number set by hand: of field 0 trip length, 1 X, 2 count, 3 kilometres, 4 whole grams, 5 rests, 6 whole grams and
-- 7 rests of the totals
unfoldable pub set_field : Run → ℕ → ℕ → ℕ → Run
set_field run field k value =
    record {
      trip = cond (eqb field 0) value run.trip;
      x = cond (eqb field 1) (set run.x k value) run.x;
      count = cond (eqb field 2) value run.count;
      km = cond (eqb field 3) (set run.km k (record { 0 = value })) run.km;
      grams = cond (eqb field 4) (set run.grams k (record { 0 = value })) run.grams;
      rests = cond (eqb field 5) (set run.rests k value) run.rests;
      total_grams = cond (eqb field 6) (set run.total_grams k (record { 0 = value })) run.total_grams;
      total_rests = cond (eqb field 7) (set run.total_rests k value) run.total_rests;
    }

-- number i of the 30 of the totals, grams and rest in turn; 0 behind the last
unfoldable pub total_field : Run → ℕ → ℕ
total_field run i = cond (ltb i 30) (cond (eqb (i % 2) 0) (total_grams_in run (i / 2)) (total_rest_in run (i / 2))) 0

-- number i of a run's 171: trip length, 16 X, count, 3 kilometres, then grams and rest of each sum, and of each total; 0 behind the last
unfoldable pub field_at : Run → ℕ → ℕ
field_at run i =
    cond (ltb i 1) run.trip
    (cond (ltb i 17) (get_or run.x (i - 1) 0)
    (cond (ltb i 18) run.count
    (cond (ltb i 21) (km_in run (i - 18))
    (cond (ltb i 141) (cond (eqb (i % 2) 1) (grams_in run ((i - 21) / 2)) (rest_in run ((i - 21) / 2))) (total_field run (i - 141))))))
