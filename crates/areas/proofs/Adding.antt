-- Laws of the grounds of adding to an area and of the run of an area. Assumes nothing.
use mathlib.Core.Path.{◌≡◌, refl}
use mathlib.Core.Bool.{true, false, not, cond, ◌&&◌}
use mathlib.Core.List.{List}
use Prim.Native.Nat.{ℕ, ◌≤◌, ◌<◌}
use lib.Dec.{eqb}
use borrow.Author.Tests.{lt-ltb, le-ltb}
use Rattle.units.specs.Grounds.{Ground, first_fit}
use Rattle.inventory.specs.declared.Record.{Record}
use Rattle.inventory.specs.Opening.{zero_run}
use Rattle.inventory.specs.Records.{record_grounds}
use Rattle.inventory.proofs.Records.{record_then, record_taken}
use Rattle.areas.specs.Areas.{counts_of, area_full, area_grounds}
use Rattle.areas.specs.Numbers.{areas_of}
use Rattle.areas.specs.Calls.{numbers_in_order, call_grounds, add_area_number, area_run_number, area_run}

-- ---- a record in an area

module _ (count common : ℕ) (rec : Record) where
  pub area_turn : first_fit (area_grounds count common rec) ≡ cond (eqb (first_fit (record_grounds rec)) 0) (cond (area_full count common) 18 0) (first_fit (record_grounds rec))
  unfolding area_grounds
  area_turn = record_then rec 18 (area_full count common)

  pub area_taken : eqb (first_fit (area_grounds count common rec)) 0 ≡ (eqb (first_fit (record_grounds rec)) 0 && not (area_full count common))
  unfolding area_grounds
  area_taken = record_taken rec 18 (area_full count common) refl

-- ---- 16, then 17

module _ (numbers : List ℕ) (area : ℕ) (own : List Ground) where
  pub call_unordered : numbers_in_order numbers ≡ false → 16 ≡ first_fit (call_grounds numbers area own)
  unfolding first_fit
  call_unordered o = rw o

  pub call_no_area : numbers_in_order numbers ≡ true → 15 < area → 17 ≡ first_fit (call_grounds numbers area own)
  unfolding first_fit
  call_no_area o h = rw (o, lt-ltb 15 area h)

module _ (numbers : List ℕ) (area : ℕ) where
  module _ (o : numbers_in_order numbers ≡ true) where
    pub run_no_area : 15 < area → (17 ≡ area_run_number numbers area) × (zero_run ≡ area_run numbers area)
    unfolding area_run_number area_run first_fit
    run_no_area h = (rw (o, lt-ltb 15 area h), rw (o, lt-ltb 15 area h))

    pub run_given : area ≤ 15 → (0 ≡ area_run_number numbers area) × ((areas_of numbers).runs area ≡ area_run numbers area)
    unfolding area_run_number area_run first_fit
    run_given h = (rw (o, le-ltb 15 area h), rw (o, le-ltb 15 area h))

  module _ (rec : Record) where
    module _ (o : numbers_in_order numbers ≡ true) where
      pub add_no_area : 15 < area → 17 ≡ add_area_number numbers area rec
      unfolding add_area_number first_fit
      add_no_area h = rw (o, lt-ltb 15 area h)

      -- in an area of areas in order the record decides, then its room
      pub add_in_turn : area ≤ 15 → first_fit (area_grounds (counts_of (areas_of numbers) area) (areas_of numbers).common rec) ≡ add_area_number numbers area rec
      unfolding add_area_number first_fit
      add_in_turn h = rw (o, le-ltb 15 area h)
