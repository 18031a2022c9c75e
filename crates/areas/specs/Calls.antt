-- The calls on areas that a caller lends as numbers: the number of each, and what it leaves or gives (SPECIFICATION, "Areas").
-- Assumes nothing.
use Rattle.std.specs.Prelude.{ℕ, Bool, not, cond, ◌&&◌, List, [], ◌∷◌, ltb, eqb, length}
use Rattle.units.specs.Grounds.{Ground, ground, first_fit}
use Rattle.inventory.specs.declared.Head.{Head}
use Rattle.inventory.specs.declared.Record.{Record}
use Rattle.inventory.specs.declared.Run.{Run}
use Rattle.inventory.specs.Records.{head_grounds}
use Rattle.inventory.specs.Opening.{zero_run}
use Rattle.areas.specs.Areas.{counts_of, areas_in_order, area_grounds, areas_with, opened_areas}
use Rattle.areas.specs.Numbers.{areas_size, areas_of, numbers_of}

-- as many numbers as areas have
abbrev pub size_ok : List ℕ → Bool
size_ok numbers = eqb (length numbers) areas_size

-- the numbers are areas in order; another length is not
unfoldable pub numbers_in_order : List ℕ → Bool
numbers_in_order numbers = size_ok numbers && areas_in_order (areas_of numbers)

-- the grounds of a call on an area: 16, then 17, then its own
abbrev pub call_grounds : List ℕ → ℕ → List Ground → List Ground
call_grounds numbers area own = ground 16 (not (numbers_in_order numbers)) ∷ ground 17 (ltb 15 area) ∷ own

-- opening: 16 for another length, then 1, 2, 19, 20
unfoldable pub open_areas_number : List ℕ → Head → ℕ
open_areas_number numbers head = first_fit (ground 16 (not (size_ok numbers)) ∷ head_grounds head)

-- the numbers that opening leaves: as they came where their length is another, zeros where the head is refused
unfoldable pub open_areas_numbers : List ℕ → Head → List ℕ
open_areas_numbers numbers head = cond (size_ok numbers) (numbers_of (opened_areas head)) numbers

-- adding to an area: 16, 17, 3 to 8, 18
unfoldable pub add_area_number : List ℕ → ℕ → Record → ℕ
add_area_number numbers area rec =
    first_fit (call_grounds numbers area (area_grounds (counts_of (areas_of numbers) area) (areas_of numbers).common rec))

-- the numbers that adding leaves: as they came where the record is refused
unfoldable pub add_area_numbers : List ℕ → ℕ → Record → List ℕ
add_area_numbers numbers area rec =
    cond (eqb (add_area_number numbers area rec) 0) (numbers_of (areas_with (areas_of numbers) area rec)) numbers

-- the run of an area: 16, 17
unfoldable pub area_run_number : List ℕ → ℕ → ℕ
area_run_number numbers area = first_fit (call_grounds numbers area [])

-- the run that is given: the run of zeros where that is refused
unfoldable pub area_run : List ℕ → ℕ → Run
area_run numbers area = cond (eqb (area_run_number numbers area) 0) ((areas_of numbers).runs area) zero_run
