-- The conditions of 17 and 18 in the words of SPECIFICATION, "Areas", over plain numbers. They are written out apart from the
-- definitions that the calls go by, so that a wrong one there breaks the claim.
-- Assumes nothing.
use Rattle.std.specs.Prelude.{ℕ, ◌-◌, Bool, cond, ◌&&◌, leb, ltb}
use Rattle.units.specs.Lists.{sum_to}
use Rattle.inventory.specs.declared.Record.{Record}
use Rattle.accuracy.specs.Conditions.{record_else}

-- 17: area above 15
unfoldable pub no_area : ℕ → Bool
no_area area = ltb 15 area

-- the records beyond 300 of sixteen counts, 0 of one below
unfoldable pub common_records : (ℕ → ℕ) → ℕ
common_records counts = sum_to (λ i. counts i - 300) 16

-- 18: the area has 300 or more and the common 200 are used, told from the counts of all sixteen
unfoldable pub full_area : (ℕ → ℕ) → ℕ → Bool
full_area counts area = leb 300 (counts area) && leb 200 (common_records counts)

-- the number of adding a record to an area where so many were taken in each: 17, the first of 3 to 8 that fits, then 18, else 0
unfoldable pub area_record_number : (ℕ → ℕ) → ℕ → Record → ℕ
area_record_number counts area rec = cond (no_area area) 17 (record_else (cond (full_area counts area) 18 0) rec)
