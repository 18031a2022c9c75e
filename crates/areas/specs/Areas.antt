-- Sixteen areas under one head, with one allowance: when they are in order, opening them, and a record in one of them
-- (SPECIFICATION, "Areas").
-- Assumes nothing.
use Rattle.std.specs.Prelude.{ℕ, ◌+◌, ◌-◌, Bool, cond, ◌&&◌, List, [], ◌∷◌, ◌++◌, leb, eqb}
use Rattle.units.specs.Lists.{all_below, sum_to}
use Rattle.units.specs.Grounds.{Ground, ground}
use Rattle.inventory.specs.declared.Head.{Head}
use Rattle.inventory.specs.declared.Record.{Record}
use Rattle.inventory.specs.declared.Run.{Run}
use Rattle.inventory.specs.Records.{record_grounds}
use Rattle.inventory.specs.Order.{in_order, same_head}
use Rattle.inventory.specs.Opening.{open_run}
use Rattle.inventory.specs.Adding.{run_with}

-- areas 0 to 15
abbrev pub area_count : ℕ
area_count = 16

-- the records that each area has for itself, and those that all of them share
abbrev pub own_limit : ℕ
own_limit = 300

abbrev pub common_limit : ℕ
common_limit = 200

-- the run of each area, and the common use
pub record Areas : Type 0 where
  pub runs : ℕ → Run
  pub common : ℕ

-- the record count of each area
abbrev pub counts_of : Areas → ℕ → ℕ
counts_of a i = (a.runs i).count

-- the records of an area beyond its own 300, 0 below
abbrev pub beyond_own : (ℕ → ℕ) → ℕ → ℕ
beyond_own counts i = counts i - own_limit

-- the records beyond 300 summed over the areas
unfoldable pub common_use : (ℕ → ℕ) → ℕ
common_use counts = sum_to (beyond_own counts) area_count

-- the run of an area is in order, and has the head of the first
abbrev pub area_ok : Areas → ℕ → Bool
area_ok a i = in_order (a.runs i) && same_head (a.runs 0) (a.runs i)

-- every area's run is in order, one head for all of them, and the common use is the records beyond 300 and at most 200
unfoldable pub areas_in_order : Areas → Bool
areas_in_order a = all_below (area_ok a) area_count && eqb a.common (common_use (counts_of a)) && leb a.common common_limit

-- the area has 300 or more and the common 200 are used
abbrev pub area_full : ℕ → ℕ → Bool
area_full count common = leb own_limit count && leb common_limit common

-- the grounds of a record in an area with so many records: 3 to 8, then 18
unfoldable pub area_grounds : ℕ → ℕ → Record → List Ground
area_grounds count common rec = record_grounds rec ++ (ground 18 (area_full count common) ∷ [])

-- the common use after a record in an area with so many records
abbrev pub common_after : ℕ → ℕ → ℕ
common_after count common = cond (leb own_limit count) (common + 1) common

-- the areas with another run in one of them, and another common use
unfoldable pub with_run : Areas → ℕ → Run → ℕ → Areas
with_run a area run common = record { runs = λ i. cond (eqb i area) run (a.runs i); common = common }

-- the areas with a record in one of them
unfoldable pub areas_with : Areas → ℕ → Record → Areas
areas_with a area rec = with_run a area (run_with (a.runs area) rec) (common_after (counts_of a area) a.common)

-- sixteen times the run that opening gives, which is the run of zeros where the head is refused; no common use
unfoldable pub opened_areas : Head → Areas
opened_areas head = record { runs = λ i. open_run head; common = 0 }
