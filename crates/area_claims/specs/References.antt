-- Sixteen reference inventories (SPECIFICATION, "Areas"; the request's tallies), one for each area, fed a head and then the areas'
-- numbers and records, never an answer.
-- Assumes nothing.
use Rattle.std.specs.Prelude.{ℕ, zero, suc, ◌+◌, Bool, not, cond, ◌&&◌, List, [], ◌∷◌, eqb}
use Rattle.inventory.specs.declared.Head.{Head}
use Rattle.inventory.specs.declared.Record.{Record}
use Rattle.accuracy.specs.Reference.{Reference, empty, accepts, with_record}
use Rattle.accuracy.specs.History.{together}
use Rattle.area_claims.specs.Conditions.{no_area, full_area}

-- an add of a list: the area asked for, which may be above 15, and the record
pub record AreaAdd : Type 0 where
  pub area : ℕ
  pub rec : Record

-- accepted where so many were accepted in each area before: there is such an area, the record is acceptable, and 18 does not fit
unfoldable pub accepts_in : (ℕ → ℕ) → AreaAdd → Bool
accepts_in counts add = not (no_area add.area) && accepts (not (full_area counts add.area)) add.rec

-- accepted, and the area i is the one asked for
unfoldable pub enters_area : (ℕ → ℕ) → AreaAdd → ℕ → Bool
enters_area counts add i = accepts_in counts add && eqb i add.area

abbrev pub counts_in : (ℕ → Reference) → ℕ → ℕ
counts_in ts i = (ts i).count

-- the reference of the area asked for, with an accepted record; any other add changes nothing
unfoldable pub fed_areas : Head → (ℕ → Reference) → AreaAdd → ℕ → Reference
fed_areas head ts add i = cond (enters_area (counts_in ts) add i) (with_record head (ts i) add.rec) (ts i)

unfoldable pub references_from : Head → (ℕ → Reference) → List AreaAdd → ℕ → Reference
references_from head ts [] = ts
references_from head ts (add ∷ adds) = references_from head (fed_areas head ts add) adds

-- the references after a list of adds, all empty at first
unfoldable pub references_of : Head → List AreaAdd → ℕ → Reference
references_of head adds = references_from head (λ i. empty head) adds

-- the counts of the references after one add more, told without their sums
unfoldable pub counts_with : (ℕ → ℕ) → AreaAdd → ℕ → ℕ
counts_with counts add i = cond (enters_area counts add i) (counts i + 1) (counts i)

-- the accepted records of the area i, in the list's order, where so many were accepted in each area before it
unfoldable pub accepted_in_from : ℕ → (ℕ → ℕ) → List AreaAdd → List Record
accepted_in_from i counts [] = []
accepted_in_from i counts (add ∷ adds) =
    cond (enters_area counts add i) (add.rec ∷ accepted_in_from i (counts_with counts add) adds) (accepted_in_from i (counts_with counts add) adds)

unfoldable pub accepted_in : ℕ → List AreaAdd → List Record
accepted_in i adds = accepted_in_from i (λ j. 0) adds

-- the references of the areas 0 to n, added up
unfoldable pub together_to : (ℕ → Reference) → ℕ → Reference
together_to ts zero = ts 0
together_to ts (suc n) = together (together_to ts n) (ts (suc n))
