-- Worked histories, by computation. Assumes nothing.
use mathlib.Core.Path.{◌≡◌, refl, ◌∙◌}
use mathlib.Core.Bool.{false, cond}
use Prim.Native.Nat.{ℕ, ◌+◌, ◌≤◌}
use lib.Dec.{ltb, lit≤}
use Rattle.units.specs.Lists.{tab, all_below, sum_to}
use Rattle.units.specs.Grounds.{outside, first_fit}
use Rattle.units.specs.Rounding.{half_up}
use Rattle.units.specs.Fractions.{plus}
use Rattle.curves.specs.Curves.{quadratic}
use Rattle.classes.specs.Classes.{fuel_of, has_cold, has_own_x, beta_reduction, x_place}
use Rattle.factors.specs.Factors.{coefficients, two_stroke, curve, emission_factor}
use Rattle.calendar.specs.Calendar.{is_leap, month_length, no_day, day_number}
use Rattle.calendar.specs.Periods.{period_grounds, days_in, days_of}
use Rattle.coldstart.specs.ColdStart.{temperature_ok, cold_share, slopes, cold_ratio, cold_excess, month_product, cold_sum, x_from, cold_x, cold_factor}
use Rattle.inventory.specs.Records.{temperatures_wrong, head_grounds, vehicle_km, shares_wrong, speeds_wrong, record_grounds}
use Rattle.inventory.specs.Order.{sum_at, sum_within, is_amount, in_order, same_head, exact_total}
use Rattle.inventory.specs.Adding.{billionths, hot_part, cold_rate, cold_part, part_of, part_at, slot_after, km_of, km_after, total_made, with_totals, raised, run_with, add_grounds, add_number, add_run}
use Rattle.inventory.specs.Opening.{empty_run, fresh_run, open_number, open_run}
use Rattle.inventory.specs.Printed.{printed_total, total_grounds, answered, total_of}
use Rattle.joins.specs.Joining.{join_grounds, join_number, slot_joined, km_joined, added_up, joined, join_run}
use Rattle.accuracy.specs.Conditions.{some_xdiffers, heads_differ, full_together, joining_number}
use Rattle.accuracy.specs.Reference.{acceptable, has_room, accepts, exact_hot, exact_cold, exact_of, empty, with_record, fed, reference_from, reference_of}
use Rattle.accuracy.specs.Claim.{run_after}
use Rattle.accuracy.specs.History.{opened, head_of, HeadsTaken, history_run, together, joined_reference, history_reference}
use Rattle.accuracy.specs.Numbers.{example_head}
use Rattle.accuracy.proofs.Whole.{history}
use Rattle.worked.specs.Worked.{many}
use Rattle.worked.proofs.Worked.{reference_many, taken}
use Rattle.worked_joins.specs.Worked.{too_many, WorkedJoinsClaim}

-- ---- full runs, joined

same_head_lem : heads_differ example_head example_head ≡ false
unfolding tab sum_to half_up has_own_x beta_reduction cold_share slopes cold_ratio cold_excess month_product cold_sum x_from cold_x some_xdiffers heads_differ
same_head_lem = refl

join_many : (m n : ℕ) → m ≤ 5000 → n ≤ 5000
    → join_number (history_run (opened example_head (many m))) (history_run (opened example_head (many n))) ≡ cond (ltb 5000 (m + n)) 22 0
unfolding head_of history_reference joining_number full_together
join_many m n h k =
    history.number (opened example_head (many m)) (opened example_head (many n)) taken taken ∙ rw (same_head_lem, reference_many m h, reference_many n k)

many_taken : HeadsTaken too_many
many_taken = (taken, taken)

pub worked_joins : WorkedJoinsClaim
unfolding is_leap month_length no_day day_number days_in days_of tab all_below sum_to outside first_fit half_up plus fuel_of has_cold has_own_x beta_reduction x_place coefficients two_stroke quadratic curve emission_factor temperature_ok cold_share slopes cold_ratio cold_excess month_product cold_sum x_from cold_x cold_factor period_grounds temperatures_wrong head_grounds vehicle_km shares_wrong speeds_wrong record_grounds sum_at sum_within is_amount in_order same_head billionths hot_part cold_rate cold_part part_of part_at slot_after km_of km_after total_made with_totals raised run_with add_grounds add_number add_run empty_run fresh_run open_number open_run exact_total printed_total total_grounds answered total_of join_grounds join_number slot_joined km_joined added_up joined join_run some_xdiffers heads_differ full_together joining_number acceptable has_room accepts exact_hot exact_cold exact_of empty with_record fed reference_from reference_of run_after head_of history_run together joined_reference history_reference
worked_joins =
    record {
      alike = refl;
      taken = ((refl, refl), refl, refl);
      periods_taken = ((refl, refl), refl);
      unlike_taken = (refl, refl);
      many_taken = many_taken;
      each_by_its_own = refl;
      both_by_the_first = refl;
      both_by_the_second = refl;
      exchanged_months = refl;
      two_records = record { totals = refl; counted = refl; distance = refl };
      later_by_its_own = refl;
      three_records = record { totals = refl; counted = refl; distance = refl };
      three_denominators = refl;
      dated_and_not = record { totals = refl; counted = refl; distance = refl };
      heads_refused = refl;
      first_alone = refl;
      one_record = record { totals = refl; counted = refl; distance = refl };
      together_taken = join_many 3000 2000 (lit≤ tt) (lit≤ tt);
      together_refused = join_many 3000 2001 (lit≤ tt) (lit≤ tt);
    }
