-- X by class and quantity, rounded and unrounded, and what goes by the X of CO of class 3. Assumes nothing.
use mathlib.Core.Path.{◌≡◌, refl, sym, ap, ◌∙◌}
use mathlib.Core.Bool.{Bool, true, false, cond}
use mathlib.Core.List.{List, [], ◌∷◌}
use Prim.Native.Nat.{ℕ, ◌+◌, ◌*◌, ◌/◌, ◌%◌, ◌<◌}
use native.Mathlib.Nat.{one-mul}
use native.Mathlib.Omega.{arith}
use borrow.Author.Tests.{eqb-true, ltb-false}
use lib.Dec.{eqb, ltb, lit<}
use Rattle.units.specs.Fractions.{over}
use Rattle.units.specs.Rounding.{half_up}
use Rattle.units.proofs.Sums.{sum_alike}
use Rattle.units.proofs.Tab.{tab_alike}
use Rattle.classes.specs.Classes.{fuel_of, has_own_x, beta_reduction}
use Rattle.classes.proofs.Classes.{fuel_below, fuel_3, other_place, other_whole}
use Rattle.calendar.specs.declared.Days.{Days}
use Rattle.calendar.specs.declared.Period.TheVariants as period
use Rattle.calendar.specs.Periods.{days_of, period_weight}
use Rattle.coldstart.specs.ColdStart.{slope_of, month_at, cold_sum, x_denominator}
use Rattle.coldstart.proofs.ColdStart.{hundredths}
use Rattle.inventory.specs.declared.Head.{Head}
use Rattle.inventory.specs.declared.Record.{Record}
use Rattle.inventory.specs.Order.{in_order, sum_at, exact_total}
use Rattle.inventory.specs.Opening.{empty_run, fresh_run}
use Rattle.inventory.specs.Adding.{billionths, cold_rate, hot_part, cold_part, part_of, part_at, total_made, with_totals}
use Rattle.inventory.proofs.Fresh.{empty_order}
use Rattle.accuracy.specs.Reference.{cold_sum_of, weight_of, exact_x, has_room, accepts, accepted_from, accepted}
use Rattle.accuracy.specs.Claim.{run_after}
use Rattle.accuracy.specs.ColdValues.{opened_x, NotCoOfClass3, SameFifteen, WithoutClass3, with_x, sum_of_months, sum_of_days, EachX, ColdValuesClaim}
use Rattle.accuracy.proofs.Sums.{sum_of}
use Rattle.accuracy.proofs.OneRecord.{x_rounded, weight_of_taken}
use Rattle.accuracy.proofs.Closed.{slot_sum, grams_of, rest_of, closed, run_closed}

rounded : (head : Head) (class quantity : ℕ) → quantity < 5
    → opened_x head class quantity ≡ half_up (exact_x head class quantity).numerator (exact_x head class quantity).denominator
unfolding fresh_run empty_run
rounded head class quantity q = x_rounded head class quantity q

own_exact : (head : Head) → exact_x head 3 0 ≡ over (cold_sum_of head 0 0 * 72) (x_denominator (weight_of head))
unfolding beta_reduction has_own_x fuel_of
own_exact head = refl

other_exact : (head : Head) (class quantity : ℕ) → NotCoOfClass3 class quantity
    → exact_x head class quantity ≡ over (cold_sum_of head (fuel_of class) quantity * 100) (x_denominator (weight_of head))
other_exact head class quantity o = rw (other_whole class quantity o)

-- the sums and the weight under other names
each_x : (head : Head) (sum : ℕ → ℕ → ℕ) (weight : ℕ) → ((fuel quantity : ℕ) → cold_sum_of head fuel quantity ≡ sum fuel quantity) → weight_of head ≡ weight
    → EachX head sum weight
each_x head sum weight e w =
    let d : x_denominator (weight_of head) ≡ 100000 * weight = omega arith in
    let own : exact_x head 3 0 ≡ over (sum 0 0 * 72) (100000 * weight) = own_exact head ∙ rw (e 0 0, d) in
    let other : (class quantity : ℕ) → NotCoOfClass3 class quantity → exact_x head class quantity ≡ over (sum (fuel_of class) quantity * 100) (100000 * weight) =
    λ class quantity o. other_exact head class quantity o ∙ rw (e (fuel_of class) quantity, d) in
    let h : 1000 * weight * 100 ≡ 100000 * weight = omega arith in
    record {
      class_3 = rounded head 3 0 (lit< tt) ∙ ap (λ f. half_up f.numerator f.denominator) own;
      exact_class_3 = own;
      others =
          λ class quantity q o.
          rounded head class quantity q ∙ ap (λ f. half_up f.numerator f.denominator) (other class quantity o)
          ∙ ap (half_up (sum (fuel_of class) quantity * 100)) (sym h) ∙ sym (hundredths (sum (fuel_of class) quantity) (1000 * weight));
      exact_others = other;
    }

undated : (head : Head) → head.period ≡ period.Year → EachX head (sum_of_months head) 12
unfolding cold_sum
undated head e =
    each_x head (sum_of_months head) 12
    (λ fuel quantity.
    ap (λ p. cold_sum p head.trip head.temps fuel quantity) e
    ∙ sum_alike _ _ 12 (λ k h. one-mul (month_at head.trip (slope_of fuel quantity) head.temps k)))
    (ap period_weight e)

dated : (head : Head) (d : Days) → head.period ≡ period.Days d → EachX head (sum_of_days head d) (days_of d)
unfolding cold_sum
dated head d e =
    each_x head (sum_of_days head d) (days_of d) (λ fuel quantity. ap (λ p. cold_sum p head.trip head.temps fuel quantity) e) (ap period_weight e)

-- ---- what goes by the last X

module _ (xs ys : List ℕ) (same : SameFifteen xs ys) where
  same_rate : (rec : Record) (quantity : ℕ) → quantity < 5 → NotCoOfClass3 rec.class quantity → cold_rate xs rec quantity ≡ cold_rate ys rec quantity
  unfolding cold_rate
  same_rate rec quantity q o =
      rw (other_place rec.class quantity o, same (fuel_of rec.class * 5 + quantity) (omega (arith, fuel_below rec.class)))

  -- own and hot say whether the sum is of the record's fuel, and whether it is of a road
  same_by : (rec : Record) (j : ℕ) (own hot : Bool) → j < 60 → eqb (j / 20) (fuel_of rec.class) ≡ own → ltb (j % 4) 3 ≡ hot
      → (rec.class ≡ 3 → j ≡ 3 → ⊥)
      → cond own (cond hot (hot_part rec (j % 20 / 4) (j % 4)) (cold_part xs rec (j % 20 / 4))) 0
      ≡ cond own (cond hot (hot_part rec (j % 20 / 4) (j % 4)) (cold_part ys rec (j % 20 / 4))) 0
  unfolding cold_part
  same_by rec j false hot h eo eh o = refl
  same_by rec j true true h eo eh o = refl
  same_by rec j true false h eo eh o =
      let other : NotCoOfClass3 rec.class (j % 20 / 4) =
      λ c q. o c (omega (arith, eqb-true (j / 20) (fuel_of rec.class) eo, ap fuel_of c ∙ fuel_3, ltb-false (j % 4) 3 eh)) in
      rw (same_rate rec (j % 20 / 4) (omega arith) other)

  same_part : (rec : Record) (j : ℕ) → j < 60 → (rec.class ≡ 3 → j ≡ 3 → ⊥) → part_at xs rec j ≡ part_at ys rec j
  unfolding part_at part_of
  same_part rec j h o = same_by rec j (eqb (j / 20) (fuel_of rec.class)) (ltb (j % 4) 3) h refl refl o

  same_slot : (l : List Record) → WithoutClass3 l → (j : ℕ) → j < 60 → slot_sum ys l j ≡ slot_sum xs l j
  unfolding slot_sum sum_of
  same_slot [] w j h = refl
  same_slot (rec ∷ l) w j h = rw (same_part rec j h (λ c z. w.0 c), same_slot l w.1 j h)

  same_closed : (trip : ℕ) (l : List Record) → WithoutClass3 l → closed trip ys l ≡ with_x ys (closed trip xs l)
  unfolding closed with_totals total_made exact_total sum_at
  same_closed trip l w =
      rw (
        tab_alike (grams_of ys l) (grams_of xs l) 60 (λ j h. ap (λ n. (billionths n).grams) (same_slot l w j h)),
        tab_alike (rest_of ys l) (rest_of xs l) 60 (λ j h. ap (λ n. (billionths n).rest) (same_slot l w j h)),
      )

-- the accepted records of a list without class 3 are none of class 3
kept : (recs : List Record) (n : ℕ) → WithoutClass3 recs → WithoutClass3 (accepted_from n recs)
unfolding accepted_from
kept [] n w = tt
kept (rec ∷ recs) n w = go (accepts (has_room n) rec) (kept recs (n + 1) w.1) (kept recs n w.1)
  where
    go : (b : Bool) → WithoutClass3 (accepted_from (n + 1) recs) → WithoutClass3 (accepted_from n recs)
        → WithoutClass3 (cond b (rec ∷ accepted_from (n + 1) recs) (accepted_from n recs))
    go true a c = (w.0, a)
    go false a c = c

same_run : (trip : ℕ) (xs ys : List ℕ) → in_order (empty_run trip xs) ≡ true → in_order (empty_run trip ys) ≡ true → SameFifteen xs ys → (recs : List Record) → WithoutClass3 recs
    → run_after (empty_run trip ys) recs ≡ with_x ys (run_after (empty_run trip xs) recs)
unfolding accepted
same_run trip xs ys a b same recs w = rw (run_closed trip ys b recs, run_closed trip xs a recs) (same_closed xs ys same trip (accepted_from 0 recs) (kept recs 0 w))

pub cold_values_lem : ColdValuesClaim
cold_values_lem =
    record {
      undated = undated;
      dated = dated;
      positive = λ head taken class quantity. omega (arith, weight_of_taken head taken);
      rounded = rounded;
      last_x_alone = same_part;
      without_class_3 =
          λ trip xs ys low high mx my same recs w.
          same_run trip xs ys (empty_order trip xs low high mx) (empty_order trip ys low high my) same recs w;
    }
