-- Demand 3, whole, and the same of every history. Assumes nothing.
use mathlib.Core.Path.{◌≡◌, ap, ◌∙◌}
use mathlib.Core.Bool.{true}
use mathlib.Core.List.{List}
use Prim.Native.Nat.{ℕ, ◌+◌, ◌-◌, ◌<◌}
use native.Mathlib.Omega.{arith}
use lib.ListN.{get_or}
use Rattle.units.specs.Grounds.{first_fit}
use Rattle.units.proofs.Tests.{inside}
use Rattle.inventory.specs.declared.Head.{Head}
use Rattle.inventory.specs.declared.Record.{Record}
use Rattle.inventory.specs.declared.Run.{Run}
use Rattle.inventory.specs.Order.{in_order}
use Rattle.inventory.specs.Opening.{empty_run, fresh_run, open_number, open_run}
use Rattle.inventory.specs.Printed.{answered, total_grounds, total_of, printed_total}
use Rattle.inventory.proofs.Fresh.{opened_is, fresh_order}
use Rattle.inventory.proofs.Heads.{head_by}
use Rattle.balance.proofs.Distance.{balance_near}
use Rattle.listing.specs.Report.{report_of, report_buffer}
use Rattle.accuracy.specs.Reference.{Reference, has_room, accepts, accepted, reference_of}
use Rattle.accuracy.specs.Conditions.{record_number, head_x}
use Rattle.accuracy.specs.Claim.{run_after, ListClaim, SameAccepted, EveryList, AccuracyClaim}
use Rattle.accuracy.specs.History.{opened, head_of, history_run, history_reference, HistoryClaim}
use Rattle.accuracy.proofs.Near.{near_printed}
use Rattle.accuracy.proofs.Measured.{takes_accepted, Measured, join_number_lem, measured, head_taken}
use Rattle.accuracy.proofs.Closed.{closed, run_closed}
use Rattle.accuracy.proofs.Order.{closed_same}
use Rattle.accuracy.proofs.Conditions.{opening, adds, totals, reports, balances}

-- on a run in order a question within the table is answered
total_given : (run : Run) → in_order run ≡ true → (fuel quantity : ℕ) → fuel < 3 → quantity < 5
    → (total_of run (fuel + 1) (quantity + 1)).grams ≡ printed_total run fuel quantity
unfolding total_of answered total_grounds first_fit
total_given run order fuel quantity f q =
    let fuel-back : fuel + 1 - 1 ≡ fuel = omega arith in
    let quantity-back : quantity + 1 - 1 ≡ quantity = omega arith in
    rw (order, inside 1 3 (fuel + 1) (omega arith) (omega arith), inside 1 5 (quantity + 1) (omega arith) (omega arith), fuel-back, quantity-back)

-- ---- what is claimed of a run and its reference holds of each pair that a history keeps

claimed : (head : Head) (run : Run) (t : Reference) → Measured head run t → ListClaim run t
unfolding printed_total
claimed head run t m =
    record {
      takes = λ rec. takes_accepted run rec m.order ∙ ap (λ n. accepts (has_room n) rec) m.count;
      adds = λ rec. adds run m.order rec ∙ ap (λ n. record_number n rec) m.count;
      ordered = m.order;
      totals = totals run m.order;
      reports = reports run m.order;
      balances = balances run m.order;
      count = m.count;
      km = m.km;
      positive = m.positive;
      near = λ fuel quantity f q. rw (total_given run m.order fuel quantity f q) (near_printed _ _ _ (m.near fuel quantity f q));
    }

pub history : HistoryClaim
unfolding fresh_run empty_run
history =
    record {
      each = λ h ok. claimed (head_of h) (history_run h) (history_reference h) (measured h ok);
      number = λ a b p q. join_number_lem (head_of a) (head_of b) (history_run a) (history_run b) (history_reference a) (history_reference b) (measured a p) (measured b q);
      head =
          λ h ok.
          let m = measured h ok in
          rw (opened_is (head_of h) (head_taken h ok)) (head_by (history_run h) (fresh_run (head_of h)) m.trip (λ i b. ap (λ xs. get_or xs i 0) m.x));
    }

-- ---- every list under a head that opening took: the history without joins

module _ (head : Head) (taken : open_number head ≡ 0) where
  listed : (recs : List Record) → ListClaim (run_after (open_run head) recs) (reference_of head recs)
  unfolding history_run history_reference
  listed recs = history.each (opened head recs) taken

  -- the run after any list of adds, in closed form
  pub after : (recs : List Record) → run_after (open_run head) recs ≡ closed head.trip (head_x head) (accepted recs)
  unfolding fresh_run
  after recs = rw (opened_is head taken) (run_closed head.trip (head_x head) (fresh_order head taken) recs)

  same_run : (recs others : List Record) → SameAccepted recs others → run_after (open_run head) recs ≡ run_after (open_run head) others
  same_run recs others same = rw (after recs, after others) (closed_same head.trip (head_x head) (accepted recs) (accepted others) same)

  pub every_list : EveryList head
  every_list =
      record {
        list = listed;
        order =
            λ recs others same.
            record {
              totals = λ fuel quantity. ap (λ run. total_of run fuel quantity) (same_run recs others same);
              answer = λ buffer. ap (λ run. report_of run buffer) (same_run recs others same);
              bytes = λ buffer. ap (λ run. report_buffer run buffer) (same_run recs others same);
            };
      }

pub whole : AccuracyClaim
whole = record { opening = opening; lists = every_list; balance = balance_near }
