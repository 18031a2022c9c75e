-- The table of figures, by computation. Assumes nothing.
use mathlib.Core.Path.{refl}
use Rattle.units.specs.Lists.{tab, all_below, sum_to}
use Rattle.units.specs.Grounds.{outside, first_fit}
use Rattle.units.specs.Rounding.{half_up}
use Rattle.curves.specs.Curves.{quadratic}
use Rattle.classes.specs.Classes.{fuel_of, has_cold, has_own_x, beta_reduction, x_place}
use Rattle.factors.specs.Factors.{coefficients, two_stroke, curve, emission_factor}
use Rattle.calendar.specs.Calendar.{is_leap, month_length, no_day, day_number}
use Rattle.calendar.specs.Periods.{period_grounds, days_in, days_of}
use Rattle.coldstart.specs.ColdStart.{temperature_ok, cold_share, slopes, cold_ratio, cold_excess, month_product, cold_sum, x_from, cold_x, cold_factor}
use Rattle.inventory.specs.Records.{temperatures_wrong, head_grounds, vehicle_km, shares_wrong, speeds_wrong, record_grounds}
use Rattle.inventory.specs.Order.{sum_at, exact_total, sum_within, is_amount, in_order}
use Rattle.inventory.specs.Adding.{billionths, hot_part, cold_rate, cold_part, part_of, part_at, slot_after, km_of, km_after, total_made, with_totals, raised, run_with, add_grounds, add_number, add_run}
use Rattle.inventory.specs.Opening.{empty_run, fresh_run, open_number, open_run}
use Rattle.inventory.specs.Printed.{printed_total, total_grounds}
use Rattle.long_division.specs.Digits.{least_to, digits_worked}
use Rattle.balance.specs.Balance.{balance_ratio, balanced_total, sold_grounds, balance_grounds, balance_number, balance_of}
use Rattle.fuel.specs.FromFuel.{co2_grams, lead_grams}
use Rattle.accuracy.specs.Claim.{run_after}
use Rattle.accuracy.specs.Numbers.{example_run, figures, NumbersClaim}

pub numbers : NumbersClaim
unfolding is_leap month_length no_day day_number period_grounds days_in days_of tab all_below sum_to outside first_fit half_up fuel_of has_cold has_own_x beta_reduction x_place coefficients two_stroke quadratic curve emission_factor temperature_ok cold_share slopes cold_ratio cold_excess month_product cold_sum x_from cold_x cold_factor temperatures_wrong head_grounds vehicle_km shares_wrong speeds_wrong record_grounds sum_at sum_within is_amount in_order billionths hot_part cold_rate cold_part part_of part_at slot_after km_of km_after total_made with_totals raised run_with add_grounds add_number add_run empty_run fresh_run open_number open_run exact_total printed_total total_grounds least_to digits_worked balance_ratio balanced_total sold_grounds balance_grounds balance_number balance_of co2_grams lead_grams run_after example_run figures
numbers = (refl, (refl, (refl, (refl, (refl, (refl, (refl, (refl, (refl, (refl, (refl, (refl, (refl, (refl, (refl, (refl, (refl, (refl, (refl, (refl, (refl, (refl, (refl, (refl, (refl, (refl, (refl, (refl, tt))))))))))))))))))))))))))))
