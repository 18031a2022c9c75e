-- SPECIFICATION, "The run" (document 02, job 7), as statements over the functions on the right of ≡ in the calls' contracts.
-- Assumes nothing.
use Rattle.std.specs.Prelude.{ℕ, ◌+◌, ◌*◌, ◌<◌, ◌≡◌, true, false, List}
use Rattle.units.specs.Rounding.{half_up}
use Rattle.inventory.specs.declared.Head.{Head}
use Rattle.inventory.specs.declared.Kind.{Kind}
use Rattle.inventory.specs.declared.Record.{Record}
use Rattle.inventory.specs.declared.Run.{Run}
use Rattle.inventory.specs.Order.{exact_total, total_rest_in, stored_total, in_order}
use Rattle.inventory.specs.Opening.{open_run}
use Rattle.inventory.specs.Adding.{add_number, add_run}
use Rattle.inventory.specs.Printed.{printed_total, total_of, kind_of}
use Rattle.joins.specs.Joining.{join_number, join_run}
use Rattle.balance.specs.Balance.{balance_number}
use Rattle.fuel.specs.FromFuel.{co2_of, so2_of, lead_of}
use Rattle.listing.specs.Report.{report_number}
use Rattle.map.specs.Map.{row_number, figure_of}
use Rattle.areas.specs.Numbers.{areas_of}
use Rattle.areas.specs.Calls.{numbers_in_order}
use Rattle.accuracy.specs.Claim.{run_after}

-- the stored total of each fuel and quantity (from 0) is the exact sum of its four kinds, as whole grams and a rest below its limit
pub record Stored (run : Run) : Type 0 where
  pub rest : (fuel quantity : ℕ) → fuel < 3 → quantity < 5 → total_rest_in run (fuel * 5 + quantity) < 1000000000
  pub total : (fuel quantity : ℕ) → fuel < 3 → quantity < 5 → stored_total run (fuel * 5 + quantity) ≡ exact_total run fuel quantity

-- the run is not in order, and every call that is handed it answers 16
pub record Sixteen (run : Run) : Type 0 where
  pub unordered : in_order run ≡ false
  pub adding : (rec : Record) → add_number run rec ≡ 16
  pub joined_first : (other : Run) → join_number run other ≡ 16
  pub joined_second : (other : Run) → join_number other run ≡ 16
  pub totals : (fuel quantity : ℕ) → (total_of run fuel quantity).number ≡ 16
  pub kinds : (fuel quantity : ℕ) (kind : Kind) → (kind_of run fuel quantity kind).number ≡ 16
  pub balances : (fuel quantity sold : ℕ) → balance_number run fuel quantity sold ≡ 16
  pub co2 : (fuel content : ℕ) → (co2_of run fuel content).number ≡ 16
  pub so2 : (fuel content : ℕ) → (so2_of run fuel content).number ≡ 16
  pub lead : (fuel content : ℕ) → (lead_of run fuel content).number ≡ 16
  pub reports : (buffer : List ℕ) → report_number run buffer ≡ 16
  pub rows : (fuel quantity : ℕ) → row_number run fuel quantity ≡ 16
  pub figures : (fuel quantity : ℕ) (kind : Kind) → (figure_of run fuel quantity kind).number ≡ 16

pub record TotalsClaim : Type 0 where
  -- opening, adding and joining keep it, where they refuse too
  pub opened : (head : Head) → Stored (open_run head)
  pub added : (run : Run) (rec : Record) → Stored run → Stored (add_run run rec)
  pub joined : (a b : Run) → Stored a → Stored (join_run a b)
  pub lists : (head : Head) (recs : List Record) → Stored (run_after (open_run head) recs)
  -- a run in order has it, and where it is lost, every call answers 16
  pub ordered : (run : Run) → in_order run ≡ true → Stored run
  pub lost : (run : Run) → (Stored run → ⊥) → Sixteen run
  -- and so has every area of lent numbers that are areas in order; 16 is the first ground of each call on them
  pub areas : (numbers : List ℕ) → numbers_in_order numbers ≡ true → (area : ℕ) → area < 16 → Stored ((areas_of numbers).runs area)
  pub areas_lost : (numbers : List ℕ) (area : ℕ) → area < 16 → (Stored ((areas_of numbers).runs area) → ⊥) → numbers_in_order numbers ≡ false
  -- a printed total is the stored one, half up to grams
  pub printed : (run : Run) (fuel quantity : ℕ) → Stored run → fuel < 3 → quantity < 5
      → printed_total run fuel quantity ≡ half_up (stored_total run (fuel * 5 + quantity)) 1000000000
