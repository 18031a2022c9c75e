-- Worked lists, by computation. Assumes nothing.
use mathlib.Core.Path.{◌≡◌, refl, ap, ◌∙◌}
use mathlib.Core.Bool.{cond}
use Prim.Native.Nat.{ℕ, zero, suc, ◌+◌, ◌*◌, ◌≤◌}
use native.Mathlib.Omega.{arith}
use borrow.Author.Tests.{lt-ltb}
use lib.Dec.{leb, lit<, lit≤}
use lib.ListN.{length}
use Rattle.units.specs.Lists.{tab, all_below, sum_to}
use Rattle.units.specs.Grounds.{outside, first_fit}
use Rattle.units.specs.Rounding.{half_up}
use Rattle.units.specs.Fractions.{over, plus}
use Rattle.curves.specs.Curves.{quadratic}
use Rattle.classes.specs.Classes.{fuel_of, has_cold, has_own_x, beta_reduction, x_place}
use Rattle.factors.specs.Factors.{coefficients, two_stroke, curve, emission_factor}
use Rattle.calendar.specs.Calendar.{is_leap, month_length, no_day, day_number}
use Rattle.calendar.specs.Periods.{period_grounds, days_in, days_of}
use Rattle.coldstart.specs.ColdStart.{temperature_ok, cold_share, slopes, cold_ratio, cold_excess, month_product, cold_sum, x_from, cold_x, cold_factor}
use Rattle.inventory.specs.declared.Record.{Record}
use Rattle.inventory.specs.Records.{temperatures_wrong, head_grounds, vehicle_km, shares_wrong, speeds_wrong, record_grounds}
use Rattle.inventory.specs.Order.{sum_at, sum_within, is_amount, in_order, exact_total}
use Rattle.inventory.specs.Adding.{billionths, hot_part, cold_rate, cold_part, part_of, part_at, slot_after, km_of, km_after, total_made, with_totals, raised, run_with, add_grounds, add_number, add_run}
use Rattle.inventory.specs.Opening.{empty_run, fresh_run, open_number, open_run}
use Rattle.inventory.specs.Printed.{printed_total, total_grounds, answered, total_of}
use Rattle.accuracy.specs.Reference.{acceptable, has_room, accepts, exact_hot, exact_cold, exact_of, empty, with_record, fed, reference_from, reference_of, exact_denominator, accepted_from, accepted}
use Rattle.accuracy.specs.Conditions.{head_x}
use Rattle.accuracy.specs.Claim.{run_after}
use Rattle.accuracy.specs.Numbers.{example_head, example_of}
use Rattle.accuracy.proofs.Sums.{sum_of}
use Rattle.accuracy.proofs.OneRecord.{brings}
use Rattle.accuracy.proofs.Closed.{km_sum, closed}
use Rattle.accuracy.proofs.Whole.{after, every_list}
use Rattle.worked.specs.Worked.{many, WorkedClaim}
use Rattle.worked.proofs.Closed.{exact_in, reference_count, reference_km, reference_exact, total_closed}

many_length : (n : ℕ) → length (many n) ≡ n
many_length zero = refl
many_length (suc n) = rw (many_length n)

many_sum : (g : Record → ℕ) (n : ℕ) → sum_of g (many n) ≡ n * g (example_of 2)
unfolding sum_of
many_sum g zero = omega arith
many_sum g (suc n) = omega (arith, many_sum g n)

many-accepted : (n k : ℕ) → k + n ≤ 5000 → accepted_from k (many n) ≡ many n
unfolding accepted_from accepts has_room acceptable first_fit record_grounds outside vehicle_km shares_wrong speeds_wrong
many-accepted zero k h = refl
many-accepted (suc n) k h = rw (lt-ltb k 5000 (omega arith), many-accepted n (k + 1) (omega arith))

pub taken : open_number example_head ≡ 0
unfolding tab all_below outside first_fit temperature_ok period_grounds temperatures_wrong head_grounds open_number
taken = refl

pub reference_many : (n : ℕ) → n ≤ 5000 → (reference_of example_head (many n)).count ≡ n
unfolding accepted
reference_many n h = reference_count example_head (many n) ∙ ap length (many-accepted n 0 (omega arith)) ∙ many_length n

count_many : (n : ℕ) → n ≤ 5000 → (run_after (open_run example_head) (many n)).count ≡ n
count_many n h = ((every_list example_head taken).list (many n)).count ∙ reference_many n h

-- the number of the add that follows
next_number : (n : ℕ) → n ≤ 5000 → add_number (run_after (open_run example_head) (many n)) (example_of 2) ≡ cond (leb 5000 n) 9 0
unfolding add_number add_grounds first_fit record_grounds outside vehicle_km shares_wrong speeds_wrong
next_number n h = rw (((every_list example_head taken).list (many n)).ordered, count_many n h)

pub worked : WorkedClaim
unfolding is_leap month_length no_day day_number days_in days_of tab all_below sum_to outside first_fit half_up plus fuel_of has_cold has_own_x beta_reduction x_place coefficients two_stroke quadratic curve emission_factor temperature_ok cold_share slopes cold_ratio cold_excess month_product cold_sum x_from cold_x cold_factor period_grounds temperatures_wrong head_grounds vehicle_km shares_wrong speeds_wrong record_grounds sum_at sum_within is_amount in_order billionths hot_part cold_rate cold_part part_of part_at slot_after km_of km_after total_made with_totals raised run_with add_grounds add_number add_run empty_run fresh_run open_number open_run exact_total printed_total total_grounds answered total_of acceptable has_room accepts exact_hot exact_cold exact_of empty with_record fed reference_from reference_of run_after accepted km_sum brings exact_in
worked =
    let all : accepted_from 0 (many 5000) ≡ many 5000 = many-accepted 5000 0 (lit≤ tt) in
    record {
      refused_between = record { totals = refl; counted = refl; distance = refl; numerators = refl; denominators = refl };
      three_fuels = record { totals = refl; counted = refl; distance = refl; numerators = refl; denominators = refl };
      class_3 = record { totals = refl; counted = refl; distance = refl; numerators = refl; denominators = refl };
      classes_2_and_3 = record { totals = refl; counted = refl; distance = refl; numerators = refl; denominators = refl };
      full_year = record { totals = refl; counted = refl; distance = refl; numerators = refl; denominators = refl };
      one_day = record { totals = refl; counted = refl; distance = refl; numerators = refl; denominators = refl };
      last_taken = next_number 4999 (lit≤ tt);
      next_refused = next_number 5000 (lit≤ tt);
      full_count = refl;
      full_km = reference_km example_head (many 5000) 0 ∙ ap (λ l. km_sum l 0) all ∙ many_sum (λ rec. km_of rec 0) 5000;
      full_exact =
          reference_exact example_head (many 5000) 0 0
          ∙ ap (λ l. over (sum_of (exact_in example_head 0 0) l) (exact_denominator example_head)) all
          ∙ ap (λ n. over n (exact_denominator example_head)) (many_sum (exact_in example_head 0 0) 5000);
      full_total =
          ap (λ run. printed_total run 0 0) (after example_head taken (many 5000) ∙ ap (closed example_head.trip (head_x example_head)) all)
          ∙ ap (λ n. half_up n 1000000000) (total_closed example_head.trip (head_x example_head) (many 5000) 0 0 (lit< tt) (lit< tt) ∙ many_sum (brings (head_x example_head) 0 0) 5000);
    }
