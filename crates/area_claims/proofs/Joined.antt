-- The runs of areas joined in order, as the run of a history. Assumes nothing.
use mathlib.Core.Path.{◌≡◌, sym, ◌∙◌}
use mathlib.Core.Bool.{true}
use mathlib.Core.List.{List}
use Prim.Native.Nat.{ℕ, zero, suc, ◌<◌}
use native.Mathlib.Omega.{arith}
use Rattle.inventory.specs.declared.Head.{Head}
use Rattle.inventory.specs.declared.Record.{Record}
use Rattle.inventory.specs.Opening.{open_number, open_run}
use Rattle.areas.specs.Calls.{numbers_in_order, area_run}
use Rattle.joins.specs.Joining.{joined_to}
use Rattle.join_claims.proofs.Whole as joining
use Rattle.accuracy.specs.Conditions.{joining_number}
use Rattle.accuracy.specs.Reference.{Reference, reference_of}
use Rattle.accuracy.specs.Claim.{run_after, ListClaim}
use Rattle.accuracy.specs.History.{History, opened, joins, head_of, HeadsTaken, history_run, joined_reference, history_reference}
use Rattle.accuracy.proofs.Whole.{history}
use Rattle.area_claims.specs.References.{together_to}

-- numbers in order whose runs are those of a list of records for each area, and the references of these lists
module _ (head : Head) (taken : open_number head ≡ 0) (lists : ℕ → List Record) (numbers : List ℕ) (order : numbers_in_order numbers ≡ true)
    (runs : (i : ℕ) → i < 16 → area_run numbers i ≡ run_after (open_run head) (lists i))
    (ts : ℕ → Reference) (references : (i : ℕ) → i < 16 → ts i ≡ reference_of head (lists i)) where
  history_to : ℕ → History
  history_to zero = opened head (lists 0)
  history_to (suc n) = joins (history_to n) (opened head (lists (suc n)))

  heads_taken : (n : ℕ) → HeadsTaken (history_to n)
  unfolding history_to
  heads_taken zero = taken
  heads_taken (suc n) = (heads_taken n, taken)

  run_to : (n : ℕ) → n < 16 → history_run (history_to n) ≡ joined_to (area_run numbers) n
  unfolding history_to history_run joined_to
  run_to zero h = sym (runs 0 (omega arith))
  run_to (suc n) h = rw (run_to n (omega arith), runs (suc n) h)

  -- the next join is taken, so the reference takes it
  number_to : (n : ℕ) → suc n < 16
      → joining_number (head_of (history_to n)) head (history_reference (history_to n)).count (reference_of head (lists (suc n))).count ≡ 0
  unfolding history_run history_reference head_of
  number_to n h =
      sym (history.number (history_to n) (opened head (lists (suc n))) (heads_taken n) taken)
      ∙ rw (run_to n (omega arith), ← runs (suc n) h) ((joining.whole).areas numbers order n (omega arith))

  reference_to : (n : ℕ) → n < 16 → history_reference (history_to n) ≡ together_to ts n
  unfolding history_to history_reference head_of together_to joined_reference
  reference_to zero h = sym (references 0 (omega arith))
  reference_to (suc n) h = rw (number_to n h, reference_to n (omega arith), references (suc n) h)

  pub joined_areas : (n : ℕ) → n < 16 → ListClaim (joined_to (area_run numbers) n) (together_to ts n)
  joined_areas n h = rw (← run_to n h, ← reference_to n h) (history.each (history_to n) (heads_taken n))
