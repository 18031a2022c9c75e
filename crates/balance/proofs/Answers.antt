-- The answer of a balance, ground by ground. Assumes nothing.
use mathlib.Core.Path.{◌≡◌, refl, ap, sym, ◌∙◌}
use mathlib.Core.Bool.{Bool, true, false, cond}
use mathlib.Core.List.{List}
use Prim.Native.Nat.{ℕ, ◌*◌, ◌-◌, ◌≤◌, ◌<◌}
use native.Mathlib.Nat.{mul_comm}
use native.Mathlib.Omega.{arith}
use lib.Dec.{eqb}
use Rattle.std.specs.Prelude.{Option, Some, None, ok_or, Result, Ok, Err, IsErrAnd}
use borrow.Author.Tests.{lt-ltb, le-ltb, eq-eqb, ne_eqb}
use Rattle.units.specs.declared.Refusal.{Refusal}
use Rattle.units.specs.declared.Refusal.TheVariants.{NoFuelUsed, SoldFuel}
use Rattle.units.specs.declared.Grams.{Grams}
use Rattle.units.specs.Grounds.{Ground, first_fit, outside}
use Rattle.units.specs.Rounding.{half_up}
use Rattle.units.specs.Refusals.{refusal_number, answer_number}
use Rattle.units.proofs.Grounds.{fit_append}
use Rattle.units.proofs.Passed.{passed_up}
use Rattle.units.proofs.Refusals.{number_positive, taken_number, refused_number}
use Rattle.units.proofs.Rounds.{half_up-least}
use Rattle.units.proofs.Tests.{inside_high, above_high}
use Rattle.long_division.specs.declared.Ratio.{Ratio}
use Rattle.long_division.specs.Digits.{digits_worked, ratio_of}
use Rattle.inventory.specs.declared.Run.{Run}
use Rattle.inventory.specs.Printed.{printed_total, total_grounds}
use Rattle.balance.specs.declared.BalanceFigures.{BalanceFigures}
use Rattle.balance.specs.Balance.{printed_fuel, balance_ratio, ratio_in_range, balanced_total, sold_grounds, balance_grounds, balance_number, balance_of, balanced_answer}

range_by : (b : Bool) (s f : ℕ) (r : Ratio) → outside 500000 1500000 (balance_ratio s f) ≡ b → Some r ≡ cond b None (Some (ratio_of s f)) → r.k ≤ 1500000
unfolding balance_ratio
range_by true s f r e h = cc
range_by false s f r e h = let k : r ≡ ratio_of s f = cc in rw k (inside_high 500000 1500000 (balance_ratio s f) e)

-- the ratio that was taken, and where none is
pub some_of : {A E : Type 0} (o : Option A) (w : Result A E) (e : E) (x : A) → w ≡ ok_or o e → w ≡ Ok x → o ≡ Some x
some_of (Some y) w e x h k = cc
some_of None w e x h k = cc

pub none_of : {A E : Type 0} (o : Option A) (w : Result A E) (e r : E) → w ≡ ok_or o e → w ≡ Err r → (o ≡ None) × (r ≡ e)
none_of (Some y) w e r h k = cc
none_of None w e r h k = (refl, cc)

pub range_most : (s f : ℕ) (r : Ratio) {E : Type 0} (o : Option Ratio) (w : Result Ratio E) (e : E) → o ≡ ratio_in_range s f → w ≡ ok_or o e → w ≡ Ok r → r.k ≤ 1500000
range_most s f r o w e p h k = range_by _ s f r refl (sym (some_of o w e r h k) ∙ p)

-- F so far below S: k is above its range
pub far : (s f : ℕ) → 0 < f → f < 666666 * s → None ≡ ratio_in_range s f
unfolding balance_ratio
far s f p h =
    let k : 1500001 ≤ half_up (s * 1000000000000) f = half_up-least (s * 1000000000000) 1500001 f p (omega arith) in
    rw (above_high 500000 1500000 (half_up (s * 1000000000000) f) (omega arith))

-- k tested behind the division
pub tested : (s f : ℕ) (r : Ratio) (b : Bool) → r ≡ ratio_of s f → outside 500000 1500000 r.k ≡ b → cond b None (Some r) ≡ ratio_in_range s f
unfolding balance_ratio
tested s f r b e h = rw (← h, e)

module _ (run : Run) (fuel quantity s : ℕ) where
  -- the balance's own grounds, over the printed FC total of the fuel
  abbrev own : List Ground
  own = sold_grounds s (printed_fuel run (fuel - 1))

  -- a question's grounds come first
  in_turn : balance_number run fuel quantity s ≡ cond (eqb (first_fit (total_grounds run fuel quantity)) 0) (first_fit own) (first_fit (total_grounds run fuel quantity))
  unfolding balance_number balance_grounds total_grounds
  in_turn = fit_append (total_grounds run fuel quantity) own tt

  refused_by : (r : Refusal) → refusal_number r ≡ balance_number run fuel quantity s → balanced_answer (Err r) ≡ balance_of run fuel quantity s
  unfolding balanced_answer balance_of
  refused_by r e = rw (← e, number_positive r)

  pub answer_unasked : {A : Type 0} (answer : Result BalanceFigures Refusal) (v : Result A Refusal) (r : Refusal) → IsErrAnd answer (λ y. y ≡ r) → v ≡ Err r
      → answer_number v ≡ first_fit (total_grounds run fuel quantity) → balanced_answer answer ≡ balance_of run fuel quantity s
  answer_unasked answer v r is e h = rw (passed_up answer r is) (refused_by r (rw (in_turn, refused_number v r _ e h, number_positive r)))

  module _ {A : Type 0} (v : Result A Refusal) (x : A) (taken : v ≡ Ok x) (asked : answer_number v ≡ first_fit (total_grounds run fuel quantity)) where
    asked_own : balance_number run fuel quantity s ≡ first_fit own
    asked_own = rw (in_turn, taken_number v x _ taken asked)

    pub answer_no_fuel : printed_fuel run (fuel - 1) ≡ 0 → balanced_answer (Err NoFuelUsed) ≡ balance_of run fuel quantity s
    unfolding refusal_number sold_grounds first_fit
    answer_no_fuel e = refused_by NoFuelUsed (rw (asked_own, eq-eqb (printed_fuel run (fuel - 1)) 0 e))

    module _ (some : printed_fuel run (fuel - 1) ≡ 0 → ⊥) where
      pub answer_sold : 999999999 < s → balanced_answer (Err SoldFuel) ≡ balance_of run fuel quantity s
      unfolding refusal_number sold_grounds first_fit
      answer_sold h = refused_by SoldFuel (rw (asked_own, ne_eqb (printed_fuel run (fuel - 1)) 0 some, lt-ltb 999999999 s h))

      module _ (few : s ≤ 999999999) where
        abbrev f : ℕ
        f = printed_fuel run (fuel - 1)

        out_of_range : (b : Bool) → None ≡ cond b None (Some (ratio_of s f)) → outside 500000 1500000 (balance_ratio s f) ≡ b
            → outside 500000 1500000 (balance_ratio s f) ≡ true
        out_of_range true e h = h
        out_of_range false e h = cc

        pub answer_range : (o : Option Ratio) (w : Result Ratio Refusal) (r : Refusal) (answer : Result BalanceFigures Refusal) → o ≡ ratio_in_range s f
            → w ≡ ok_or o SoldFuel → w ≡ Err r → IsErrAnd answer (λ y. y ≡ r) → balanced_answer answer ≡ balance_of run fuel quantity s
        unfolding refusal_number sold_grounds first_fit
        answer_range o w r answer e h k is =
            let n = none_of o w SoldFuel r h k in
            rw (passed_up answer r is, n.1)
            (refused_by SoldFuel (rw (asked_own, ne_eqb f 0 some, le-ltb 999999999 s few, out_of_range _ (sym n.0 ∙ e) refl)))

        in_range : (b : Bool) (r : Ratio) → Some r ≡ cond b None (Some (ratio_of s f)) → outside 500000 1500000 (balance_ratio s f) ≡ b
            → (outside 500000 1500000 (balance_ratio s f) ≡ false) × (r ≡ ratio_of s f)
        in_range true r e h = cc
        in_range false r e h = (h, cc)

        pub answer_given : (o : Option Ratio) (w : Result Ratio Refusal) (r : Ratio) (g : Grams) {t : ℕ} → o ≡ ratio_in_range s f → w ≡ ok_or o SoldFuel → w ≡ Ok r
            → t ≡ printed_total run (fuel - 1) (quantity - 1) → g.0 ≡ half_up (r.k * t) 1000000
            → balanced_answer (Ok (record { k = r.k; digits = r.digits; grams = g })) ≡ balance_of run fuel quantity s
        unfolding balanced_answer balance_of balanced_total balance_ratio sold_grounds first_fit
        answer_given o w r g {t} e h k et eg =
            let p = in_range _ r (sym (some_of o w SoldFuel r h k) ∙ e) refl in
            let z : balance_number run fuel quantity s ≡ 0 = rw (asked_own, ne_eqb f 0 some, le-ltb 999999999 s few, p.0) in
            let rk : r.k ≡ balance_ratio s f = ap (λ (x : Ratio). x.k) p.1 in
            let d : r.digits ≡ digits_worked s f = ap (λ (x : Ratio). x.digits) p.1 in
            rw (z, ← rk, ← d, ← et, eg, mul_comm r.k t)
