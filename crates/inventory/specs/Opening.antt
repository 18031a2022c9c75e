-- Opening a run (SPECIFICATION, "The run").
-- Assumes nothing.
use Rattle.std.specs.Prelude.{ℕ, cond, eqb, List, Result, Ok, Err}
use Rattle.units.specs.declared.Refusal.{Refusal}
use Rattle.units.specs.declared.Grams.{Grams}
use Rattle.units.specs.declared.VehicleKm.{VehicleKm}
use Rattle.units.specs.Lists.{tab}
use Rattle.units.specs.Grounds.{first_fit}
use Rattle.classes.specs.Classes.{x_count}
use Rattle.coldstart.specs.ColdStart.{cold_values}
use Rattle.inventory.specs.declared.Head.{Head}
use Rattle.inventory.specs.declared.Run.{Run}
use Rattle.inventory.specs.Records.{head_grounds}

abbrev pub no_km : ℕ → VehicleKm
no_km k = record { 0 = 0 }

abbrev pub no_grams : ℕ → Grams
no_grams k = record { 0 = 0 }

abbrev pub no_rest : ℕ → ℕ
no_rest k = 0

-- a run without records
unfoldable pub empty_run : ℕ → List ℕ → Run
empty_run trip xs =
    record {
      trip = trip;
      x = xs;
      count = 0;
      km = tab no_km 3;
      grams = tab no_grams 60;
      rests = tab no_rest 60;
      total_grams = tab no_grams 15;
      total_rests = tab no_rest 15;
    }

-- the run of zeros
unfoldable pub zero_run : Run
zero_run = empty_run 0 (tab no_rest x_count)

-- the run of a head that opening takes
unfoldable pub fresh_run : Head → Run
fresh_run head = empty_run head.trip (cold_values head.period head.trip head.temps)

-- the number of opening: 0 where the head is taken
unfoldable pub open_number : Head → ℕ
open_number head = first_fit (head_grounds head)

-- the run that opening gives
unfoldable pub open_run : Head → Run
open_run head = cond (eqb (open_number head) 0) (fresh_run head) zero_run

-- the run of an answer: that of zeros where it is refused
unfoldable pub given_run : Result Run Refusal → Run
given_run (Ok run) = run
given_run (Err r) = zero_run
