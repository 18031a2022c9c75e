-- The laws of the calendar and of the weights. Assumes nothing.
use mathlib.Core.Path.{◌≡◌, refl, sym}
use mathlib.Core.Bool.{Bool, true, false}
use Prim.Native.Nat.{ℕ}
use lib.Dec.{eqb}
use borrow.Author.Tests.{eqb-true, eqb-false}
use Rattle.units.specs.Figures.{AllPrinted}
use Rattle.units.specs.Lists.{sum_to}
use Rattle.units.specs.Grounds.{first_fit, outside}
use Rattle.calendar.specs.Calendar.{is_leap, month_length, no_day, day_number}
use Rattle.calendar.specs.Periods.{days, period_from, period_grounds, days_in, days_of}
use Rattle.calendar.specs.declared.Period.TheVariants as period
use Rattle.calendar.specs.Claim.{figures, CalendarClaim}
use Rattle.calendar.proofs.Grounds.{no_dates, last_alone, first_there}
use Rattle.calendar.proofs.Laws.{weights_sum, ends, least_days, most_days, full_taken, full_weights, full_days, day_taken, day_weights}

worked : AllPrinted figures
unfolding figures sum_to first_fit outside is_leap month_length no_day day_number period_grounds days_in days_of
worked = (refl, (refl, (refl, (refl, (refl, (refl, (refl, (refl, (refl, (refl, (refl, (refl, (refl, (refl, (refl, (refl, (refl, (refl, (refl, (refl, (refl, (refl, (refl, tt)))))))))))))))))))))))

dated_by : (first last : ℕ) (b : Bool) → eqb first 0 ≡ b → (first ≡ 0 → last ≡ 0 → ⊥) → period_from first last ≡ period.Days (days first last)
dated_by first last true e h = sym (last_alone first last (h (eqb-true first 0 e)))
dated_by first last false e h = sym (first_there first last (eqb-false first 0 e))

pub calendar_claim : CalendarClaim
calendar_claim =
    record {
      no_dates = sym (no_dates 0 0 refl refl);
      dates = λ first last h. dated_by first last (eqb first 0) refl h;
      weights = weights_sum;
      ends = ends;
      least_days = least_days;
      most_days = most_days;
      full_taken = full_taken;
      full_weights = λ year k low high h. full_weights year low high k h;
      full_days = full_days;
      day_taken = day_taken;
      day_weights = λ date k day h. day_weights date day k h;
      worked = worked;
    }
