-- Worked areas, by computation. Assumes nothing.
use mathlib.Core.Path.{◌≡◌, refl, ap, ◌∙◌}
use mathlib.Core.List.{List, [], ◌∷◌}
use Prim.Native.Nat.{ℕ, ◌<◌}
use native.Mathlib.Omega.{arith}
use Rattle.units.specs.Lists.{tab, all_below, sum_to}
use Rattle.units.specs.Grounds.{outside, first_fit}
use Rattle.units.specs.Rounding.{half_up}
use Rattle.curves.specs.Curves.{quadratic}
use Rattle.classes.specs.Classes.{fuel_of, has_cold, has_own_x, beta_reduction, x_place}
use Rattle.factors.specs.Factors.{coefficients, two_stroke, curve, emission_factor}
use Rattle.calendar.specs.Periods.{period_grounds}
use Rattle.coldstart.specs.ColdStart.{temperature_ok, cold_share, slopes, cold_ratio, cold_excess, month_product, cold_sum, x_from, cold_x, cold_factor}
use Rattle.inventory.specs.Records.{temperatures_wrong, head_grounds, vehicle_km, shares_wrong, speeds_wrong, record_grounds}
use Rattle.inventory.specs.Order.{sum_at, exact_total, sum_within, is_amount, in_order}
use Rattle.inventory.specs.Adding.{billionths, total_made, with_totals, hot_part, cold_rate, cold_part, part_of, part_at, slot_after, km_of, km_after, raised, run_with, add_grounds, add_number, add_run}
use Rattle.inventory.specs.Opening.{empty_run, fresh_run, open_number, open_run}
use Rattle.inventory.specs.Printed.{printed_total, total_grounds, answered, total_of}
use Rattle.accuracy.specs.Reference.{acceptable, accepts}
use Rattle.accuracy.specs.Claim.{run_after}
use Rattle.accuracy.specs.Numbers.{example_head, example_of}
use Rattle.areas.specs.Calls.{open_areas_number, open_areas_numbers, area_run}
use Rattle.area_claims.specs.Conditions.{no_area, common_records, full_area}
use Rattle.area_claims.specs.References.{accepts_in, enters_area, counts_with, accepted_in_from, accepted_in}
use Rattle.area_claims.specs.Claim.{numbers_after}
use Rattle.area_claims.specs.Worked.{example_adds, example_co, AreasWorkedClaim}
use Rattle.area_claims.proofs.Lists.{areas_claim}

accepted_3 : accepted_in 3 example_adds ≡ example_of 2 ∷ example_of 2 ∷ []
unfolding accepted_in accepted_in_from enters_area accepts_in counts_with no_area full_area common_records sum_to accepts acceptable first_fit record_grounds outside vehicle_km shares_wrong speeds_wrong
accepted_3 = refl

accepted_5 : accepted_in 5 example_adds ≡ example_of 6 ∷ []
unfolding accepted_in accepted_in_from enters_area accepts_in counts_with no_area full_area common_records sum_to accepts acceptable first_fit record_grounds outside vehicle_km shares_wrong speeds_wrong
accepted_5 = refl

accepted_other : accepted_in 0 example_adds ≡ []
unfolding accepted_in accepted_in_from enters_area accepts_in counts_with no_area full_area common_records sum_to accepts acceptable first_fit record_grounds outside vehicle_km shares_wrong speeds_wrong
accepted_other = refl

co_class_2 : (total_of (run_after (open_run example_head) (example_of 2 ∷ example_of 2 ∷ [])) 1 1).grams ≡ 54264364
unfolding tab all_below sum_to outside first_fit half_up quadratic fuel_of has_cold has_own_x beta_reduction x_place coefficients two_stroke curve emission_factor temperature_ok cold_share slopes cold_ratio cold_excess month_product cold_sum x_from cold_x cold_factor period_grounds temperatures_wrong head_grounds vehicle_km shares_wrong speeds_wrong record_grounds sum_at exact_total sum_within is_amount in_order billionths total_made with_totals hot_part cold_rate cold_part part_of part_at slot_after km_of km_after raised run_with add_grounds add_number add_run empty_run fresh_run open_number open_run printed_total total_grounds answered total_of run_after
co_class_2 = refl

co_class_6 : (total_of (run_after (open_run example_head) (example_of 6 ∷ [])) 2 1).grams ≡ 14646798
unfolding tab all_below sum_to outside first_fit half_up quadratic fuel_of has_cold has_own_x beta_reduction x_place coefficients two_stroke curve emission_factor temperature_ok cold_share slopes cold_ratio cold_excess month_product cold_sum x_from cold_x cold_factor period_grounds temperatures_wrong head_grounds vehicle_km shares_wrong speeds_wrong record_grounds sum_at exact_total sum_within is_amount in_order billionths total_made with_totals hot_part cold_rate cold_part part_of part_at slot_after km_of km_after raised run_with add_grounds add_number add_run empty_run fresh_run open_number open_run printed_total total_grounds answered total_of run_after
co_class_6 = refl

module _ (numbers : List ℕ) (taken : open_areas_number numbers example_head ≡ 0) where
  run_of : (i : ℕ) → i < 16 → area_run (numbers_after (open_areas_numbers numbers example_head) example_adds) i ≡ run_after (open_run example_head) (accepted_in i example_adds)
  run_of i h = ((areas_claim.lists numbers example_head taken).list example_adds).run i h

  co_3 : example_co numbers 3 1 ≡ 54264364
  co_3 =
      ap (λ run. (total_of run 1 1).grams) (run_of 3 (omega arith)) ∙ ap (λ l. (total_of (run_after (open_run example_head) l) 1 1).grams) accepted_3
      ∙ co_class_2

  co_5 : example_co numbers 5 2 ≡ 14646798
  co_5 =
      ap (λ run. (total_of run 2 1).grams) (run_of 5 (omega arith)) ∙ ap (λ l. (total_of (run_after (open_run example_head) l) 2 1).grams) accepted_5
      ∙ co_class_6

pub worked : AreasWorkedClaim
unfolding full_area common_records sum_to
worked =
    record {
      accepted_3 = accepted_3;
      accepted_5 = accepted_5;
      accepted_other = accepted_other;
      co_3 = co_3;
      co_5 = co_5;
      all_at_300 = refl;
      one_at_499 = refl;
      one_at_500 = refl;
      others_at_300 = refl;
      used_by_all = refl;
      own_at_299 = refl;
    }
