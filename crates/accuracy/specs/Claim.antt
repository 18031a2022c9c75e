-- SPECIFICATION, "Accuracy" (demand 3), whole, as one statement over the functions on the right of ≡ in the calls' contracts.
-- Assumes nothing.
use Rattle.std.specs.Prelude.{ℕ, ◌+◌, ◌*◌, ◌-◌, ◌<◌, ◌≡◌, true, cond, List, [], ◌∷◌, eqb, length}
use Rattle.units.specs.Fractions.{Fraction, over, plus, WithinDistance}
use Rattle.inventory.specs.declared.Head.{Head}
use Rattle.inventory.specs.declared.Record.{Record}
use Rattle.inventory.specs.declared.Run.{Run}
use Rattle.inventory.specs.Order.{in_order, km_in}
use Rattle.inventory.specs.Opening.{open_number, open_run}
use Rattle.inventory.specs.Adding.{add_number, add_run}
use Rattle.inventory.specs.Printed.{total_of, printed_total}
use Rattle.balance.specs.Balance.{balance_of, printed_fuel, BalanceNear}
use Rattle.listing.specs.Report.{report_bytes, report_of, report_buffer}
use Rattle.accuracy.specs.Conditions.{opening_number, record_number, fuel_or_quantity_out, no_fuel_used, sold_fuel_out, buffer_short}
use Rattle.accuracy.specs.Reference.{Reference, reference_of, has_room, accepts, accepted, occurs}

-- the run after a list of adds, each on the run that the one before it gave back, refused or not
unfoldable pub run_after : Run → List Record → Run
run_after run [] = run
run_after run (rec ∷ recs) = run_after (add_run run rec) recs

-- half a gram plus 1.5 g per ten million vehicle kilometres
unfoldable pub allowance : ℕ → Fraction
allowance km = plus (over 1 2) (over (15 * km) (10 * 10000000))

-- F: the FC total of a fuel, as the run gives it
abbrev pub fuel_total : Run → ℕ → ℕ
fuel_total run fuel = (total_of run fuel 5).grams

-- what holds of the run after a list of records or any other history, given the reference after it
pub record ListClaim (run : Run) (reference : Reference) : Type 0 where
  -- the next add takes its record exactly where the reference accepts it
  pub takes : (rec : Record) → eqb (add_number run rec) 0 ≡ accepts (has_room reference.count) rec
  -- its number is the first of 3 to 8 that fits the record, then 9 by the reference's count
  pub adds : (rec : Record) → add_number run rec ≡ record_number reference.count rec
  -- 16 fits no such run
  pub ordered : in_order run ≡ true
  -- a total is refused exactly where 11 fits, a report exactly where 14, a balance exactly where 11, 12 or 13, with the first that fits
  pub totals : (fuel quantity : ℕ) → (total_of run fuel quantity).number ≡ cond (fuel_or_quantity_out fuel quantity) 11 0
  pub reports : (buffer : List ℕ) → (report_of run buffer).number ≡ cond (buffer_short (length buffer) (length (report_bytes run))) 14 0
  pub balances : (fuel quantity s : ℕ) → (balance_of run fuel quantity s).number
      ≡ cond (fuel_or_quantity_out fuel quantity) 11 (cond (no_fuel_used (fuel_total run fuel)) 12 (cond (sold_fuel_out s (fuel_total run fuel)) 13 0))
  -- count and kilometres are the reference's
  pub count : run.count ≡ reference.count
  pub km : (fuel : ℕ) → fuel < 3 → km_in run fuel ≡ reference.km fuel
  -- each total that is asked for is within the allowed distance of the exact sum, a fraction over a positive denominator
  pub positive : (fuel quantity : ℕ) → 0 < (reference.exact fuel quantity).denominator
  pub near : (fuel quantity : ℕ) → fuel < 3 → quantity < 5
      → WithinDistance (total_of run (fuel + 1) (quantity + 1)).grams (reference.exact fuel quantity) (allowance (reference.km fuel))

-- each record occurs equally often among the accepted ones of both lists
abbrev pub SameAccepted : List Record → List Record → Type 0
SameAccepted recs others = (rec : Record) → occurs rec (accepted recs) ≡ occurs rec (accepted others)

-- the same answer and, in buffers that were alike before, the same bytes; and the same totals
pub record SameReport (a b : Run) : Type 0 where
  pub totals : (fuel quantity : ℕ) → total_of a fuel quantity ≡ total_of b fuel quantity
  pub answer : (buffer : List ℕ) → report_of a buffer ≡ report_of b buffer
  pub bytes : (buffer : List ℕ) → report_buffer a buffer ≡ report_buffer b buffer

-- the part about every list of adds under one head
pub record EveryList (head : Head) : Type 0 where
  pub list : (recs : List Record) → ListClaim (run_after (open_run head) recs) (reference_of head recs)
  pub order : (recs others : List Record) → SameAccepted recs others
      → SameReport (run_after (open_run head) recs) (run_after (open_run head) others)

pub record AccuracyClaim : Type 0 where
  -- opening refuses exactly where 1, 2, 19 or 20 fits, with the first that fits
  pub opening : (head : Head) → open_number head ≡ opening_number head
  -- every list of adds under every head that opening took
  pub lists : (head : Head) → open_number head ≡ 0 → EveryList head
  -- on any run, a balanced total that is not refused
  pub balance : (run : Run) (fuel quantity s : ℕ)
      → BalanceNear (balance_of run fuel quantity s) (printed_total run (fuel - 1) (quantity - 1)) s (printed_fuel run (fuel - 1))
