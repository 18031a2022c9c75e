-- SPECIFICATION, "Joining" (document 02, job 6), as statements over the functions on the right of ≡ in the call's contract.
-- `Shaped` says that the arrays of a run have their lengths, as every run of the type has (`Run::shaped`, crate inventory).
-- Assumes nothing.
use Rattle.std.specs.Prelude.{ℕ, suc, ◌+◌, ◌≤◌, ◌<◌, ◌≡◌, true, not, cond, ◌||◌, List, ltb}
use Rattle.units.specs.Lists.{sum_to}
use Rattle.inventory.specs.declared.Head.{Head}
use Rattle.inventory.specs.declared.Run.{Run}
use Rattle.inventory.specs.Limits.{Shaped}
use Rattle.inventory.specs.Order.{in_order, same_head, km_in, sum_at, stored_total}
use Rattle.inventory.specs.Opening.{open_number, open_run}
use Rattle.areas.specs.Calls.{numbers_in_order, area_run}
use Rattle.joins.specs.Joining.{join_number, join_run, joined_to}

-- the run of two runs: the L and X of the first, and count, kilometres, each of the 60 sums and each of the 15 totals (billionths of a
-- gram) added up
pub record Both (a b run : Run) : Type 0 where
  pub trip : run.trip ≡ a.trip
  pub x : run.x ≡ a.x
  pub count : run.count ≡ a.count + b.count
  pub km : (fuel : ℕ) → fuel < 3 → km_in run fuel ≡ km_in a fuel + km_in b fuel
  pub sums : (j : ℕ) → j < 60 → sum_at run j ≡ sum_at a j + sum_at b j
  pub totals : (k : ℕ) → k < 15 → stored_total run k ≡ stored_total a k + stored_total b k

-- (a · b) · c against a · (b · c)
pub record Associates (a b c : Run) : Type 0 where
  -- the one is taken exactly where the other is, and is refused with the same number
  pub number : join_number (join_run a b) c ≡ join_number a (join_run b c)
  pub run : join_number (join_run a b) c ≡ 0 → join_run (join_run a b) c ≡ join_run a (join_run b c)

-- a fresh run changes nothing, joined from either side
pub record Neutral (run fresh : Run) : Type 0 where
  pub taken_right : join_number run fresh ≡ 0
  pub right : join_run run fresh ≡ run
  pub taken_left : join_number fresh run ≡ 0
  pub left : join_run fresh run ≡ run

pub record JoinClaim : Type 0 where
  -- 16 where either run is not in order, then 21 where L or an X differs, then 22 where they have more than 5,000 records together
  pub numbers : (a b : Run)
      → join_number a b ≡ cond (not (in_order a) || not (in_order b)) 16 (cond (not (same_head a b)) 21 (cond (ltb 5000 (a.count + b.count)) 22 0))
  -- a refused join gives back the first run, a taken one the run of both, which is in order
  pub refused : (a b : Run) → (join_number a b ≡ 0 → ⊥) → join_run a b ≡ a
  pub taken : (a b : Run) → join_number a b ≡ 0 → Both a b (join_run a b)
  pub ordered : (a b : Run) → in_order a ≡ true → in_order (join_run a b) ≡ true
  pub shaped : (a b : Run) → Shaped a → Shaped (join_run a b)
  -- the exchanged join gets the same number, and where they are taken both give one run
  pub same_number : (a b : Run) → join_number a b ≡ join_number b a
  pub commutative : (a b : Run) → Shaped a → Shaped b → join_number a b ≡ 0 → join_run a b ≡ join_run b a
  -- where a · b and b · c are taken
  pub associative : (a b c : Run) → join_number a b ≡ 0 → join_number b c ≡ 0 → Associates a b c
  -- the fresh run of any head that opening takes, if it has the run's L and X
  pub neutral : (run : Run) (head : Head) → Shaped run → in_order run ≡ true → open_number head ≡ 0 → same_head run (open_run head) ≡ true
      → Neutral run (open_run head)
  -- any number of runs in order with one L and X, together at most 5,000 records, joined in order: no join is refused
  pub several : (runs : ℕ → Run) (last : ℕ) → ((i : ℕ) → i ≤ last → in_order (runs i) ≡ true) → ((i : ℕ) → i ≤ last → same_head (runs 0) (runs i) ≡ true)
      → sum_to (λ i. (runs i).count) (suc last) ≤ 5000 → (n : ℕ) → n < last → join_number (joined_to runs n) (runs (suc n)) ≡ 0
  -- so the runs of any sixteen areas in order are joined, each to what the ones before it gave, and no join is refused
  pub areas : (numbers : List ℕ) → numbers_in_order numbers ≡ true → (n : ℕ) → n < 15 → join_number (joined_to (area_run numbers) n) (area_run numbers (suc n)) ≡ 0
