-- Worked areas (SPECIFICATION, "Areas"): the references and the runs after a list are not empty, and 18 at its limits.
-- Assumes nothing.
use Rattle.std.specs.Prelude.{ℕ, ◌/◌, ◌≡◌, true, false, cond, List, [], ◌∷◌, eqb}
use Rattle.inventory.specs.Printed.{total_of}
use Rattle.accuracy.specs.Numbers.{example_head, example_of}
use Rattle.areas.specs.Calls.{open_areas_number, open_areas_numbers, area_run}
use Rattle.area_claims.specs.Conditions.{full_area}
use Rattle.area_claims.specs.References.{AreaAdd, accepted_in}
use Rattle.area_claims.specs.Claim.{numbers_after}

-- the example's record, with any class, to an area
abbrev pub to_area : ℕ → ℕ → AreaAdd
to_area area class = record { area = area; rec = example_of class }

-- two records to area 3 and one to area 5; between them one to no area, and one of no class
abbrev pub example_adds : List AreaAdd
example_adds = to_area 3 2 ∷ to_area 16 2 ∷ to_area 3 0 ∷ to_area 5 6 ∷ to_area 3 2 ∷ []

-- CO of a fuel in an area after these, in whatever memory the areas were opened
abbrev pub example_co : List ℕ → ℕ → ℕ → ℕ
example_co numbers area fuel = (total_of (area_run (numbers_after (open_areas_numbers numbers example_head) example_adds) area) fuel 1).grams

-- so many records in every area, but for one of them
abbrev pub all_but : ℕ → ℕ → ℕ → ℕ → ℕ
all_but most area count i = cond (eqb i area) count most

pub record AreasWorkedClaim : Type 0 where
  pub accepted_3 : accepted_in 3 example_adds ≡ example_of 2 ∷ example_of 2 ∷ []
  pub accepted_5 : accepted_in 5 example_adds ≡ example_of 6 ∷ []
  pub accepted_other : accepted_in 0 example_adds ≡ []
  pub co_3 : (numbers : List ℕ) → open_areas_number numbers example_head ≡ 0 → example_co numbers 3 1 ≡ 54264364
  pub co_5 : (numbers : List ℕ) → open_areas_number numbers example_head ≡ 0 → example_co numbers 5 2 ≡ 14646798
  -- sixteen areas at 300: each still has the common 200
  pub all_at_300 : full_area (λ i. 300) 9 ≡ false
  -- one area has used 199 of them, and then all: it and every other is full
  pub one_at_499 : full_area (all_but 300 9 499) 9 ≡ false
  pub one_at_500 : full_area (all_but 300 9 500) 9 ≡ true
  pub others_at_300 : full_area (all_but 300 9 500) 2 ≡ true
  -- all are used, twelve or thirteen by each area
  pub used_by_all : full_area (λ i. cond (eqb (i / 8) 0) 312 313) 15 ≡ true
  -- all are used by another area: 299 of its own leave room for one more
  pub own_at_299 : full_area (λ i. cond (eqb i 9) 500 (cond (eqb i 2) 299 300)) 2 ≡ false
