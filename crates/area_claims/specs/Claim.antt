-- SPECIFICATION, "Areas" (document 02, job 3), as statements over the functions on the right of ≡ in the calls' contracts.
-- Assumes nothing.
use Rattle.std.specs.Prelude.{ℕ, ◌≤◌, ◌<◌, ◌≡◌, true, not, cond, List, [], ◌∷◌, eqb, length}
use Rattle.units.specs.Lists.{tab, sum_to}
use Rattle.inventory.specs.declared.Head.{Head}
use Rattle.inventory.specs.declared.Record.{Record}
use Rattle.inventory.specs.Opening.{open_run}
use Rattle.areas.specs.Areas.{counts_of}
use Rattle.areas.specs.Numbers.{areas_of}
use Rattle.areas.specs.Calls.{numbers_in_order, open_areas_number, open_areas_numbers, add_area_number, add_area_numbers, area_run_number, area_run}
use Rattle.accuracy.specs.Conditions.{opening_number}
use Rattle.joins.specs.Joining.{joined_to}
use Rattle.accuracy.specs.Reference.{Reference, reference_of, acceptable, occurs}
use Rattle.accuracy.specs.Claim.{run_after, ListClaim, SameReport}
use Rattle.area_claims.specs.Conditions.{no_area, area_record_number}
use Rattle.area_claims.specs.References.{AreaAdd, accepts_in, counts_in, references_of, accepted_in, together_to}

-- the numbers after a list of adds, each on the numbers that the one before it left, refused or not
unfoldable pub numbers_after : List ℕ → List AreaAdd → List ℕ
numbers_after numbers [] = numbers
numbers_after numbers (add ∷ adds) = numbers_after (add_area_numbers numbers add.area add.rec) adds

-- what holds of the numbers after a list of adds under a head, given the sixteen references after it
pub record AreasAfter (head : Head) (adds : List AreaAdd) (numbers : List ℕ) (references : ℕ → Reference) : Type 0 where
  -- the next add takes its record exactly where the references accept it
  pub takes : (add : AreaAdd) → eqb (add_area_number numbers add.area add.rec) 0 ≡ accepts_in (counts_in references) add
  -- its number is 17, the first of 3 to 8 that fits the record, then 18 by the counts of all sixteen references
  pub adds_number : (add : AreaAdd) → add_area_number numbers add.area add.rec ≡ area_record_number (counts_in references) add.area add.rec
  -- 16 fits no such numbers
  pub ordered : numbers_in_order numbers ≡ true
  -- the run of an area is refused exactly where 17 fits
  pub runs_number : (area : ℕ) → area_run_number numbers area ≡ cond (no_area area) 17 0
  -- the run of an area is the single run of its accepted records
  pub run : (i : ℕ) → i < 16 → area_run numbers i ≡ run_after (open_run head) (accepted_in i adds)
  -- so all that is claimed of single runs holds of it, with the area's own reference: count, kilometres, distance
  pub each : (i : ℕ) → i < 16 → ListClaim (area_run numbers i) (references i)
  -- and that reference is the single run's: the run of an area is the run of a history, to be joined as any other
  pub reference : (i : ℕ) → i < 16 → references i ≡ reference_of head (accepted_in i adds)
  -- the same holds of the runs of the areas 0 to n joined in order (no join is refused: JoinClaim.areas), with their references added up
  pub joined : (n : ℕ) → n < 16 → ListClaim (joined_to (area_run numbers) n) (together_to references n)

-- each record occurs equally often among the accepted ones of an area in both lists
abbrev pub SameAcceptedIn : ℕ → List AreaAdd → List AreaAdd → Type 0
SameAcceptedIn i adds others = (rec : Record) → occurs rec (accepted_in i adds) ≡ occurs rec (accepted_in i others)

-- the part about every list of adds to freshly opened areas
pub record EveryAreasList (head : Head) (opened : List ℕ) : Type 0 where
  pub list : (adds : List AreaAdd) → AreasAfter head adds (numbers_after opened adds) (references_of head adds)
  pub order : (adds others : List AreaAdd) (i : ℕ) → i < 16 → SameAcceptedIn i adds others
      → SameReport (area_run (numbers_after opened adds) i) (area_run (numbers_after opened others) i)

pub record AreasClaim : Type 0 where
  -- opening refuses exactly where the length is another, or 1, 2, 19 or 20 fits, with the first that fits
  pub opening : (numbers : List ℕ) (head : Head)
      → open_areas_number numbers head ≡ cond (not (eqb (length numbers) 2737)) 16 (opening_number head)
  -- a head that it refuses leaves zeros alone; another length leaves every number (open_areas_numbers)
  pub zeros : (numbers : List ℕ) (head : Head) → length numbers ≡ 2737 → (open_areas_number numbers head ≡ 0 → ⊥)
      → open_areas_numbers numbers head ≡ tab (λ j. 0) 2737
  -- every list of adds to areas that opening took, under every head
  pub lists : (numbers : List ℕ) (head : Head) → open_areas_number numbers head ≡ 0 → EveryAreasList head (open_areas_numbers numbers head)
  -- any areas in order stay so, whatever is added
  pub kept : (numbers : List ℕ) (adds : List AreaAdd) → numbers_in_order numbers ≡ true → numbers_in_order (numbers_after numbers adds) ≡ true
  -- they have at most 5,000 records
  pub shared : (numbers : List ℕ) → numbers_in_order numbers ≡ true → sum_to (counts_of (areas_of numbers)) 16 ≤ 5000
  -- whose next add has the number that the counts of all sixteen give: 17, 3 to 8, 18, and never 16
  pub room : (numbers : List ℕ) (add : AreaAdd) → numbers_in_order numbers ≡ true
      → add_area_number numbers add.area add.rec ≡ area_record_number (counts_of (areas_of numbers)) add.area add.rec
  -- never starved: in any areas in order, an area below 300 takes every record that no number 3 to 8 fits, whatever the others hold
  pub never_starved : (numbers : List ℕ) (area : ℕ) (rec : Record) → numbers_in_order numbers ≡ true → area < 16 → counts_of (areas_of numbers) area < 300
      → acceptable rec ≡ true → add_area_number numbers area rec ≡ 0
