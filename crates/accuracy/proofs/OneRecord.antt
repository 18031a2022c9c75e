-- What is used of one record: its limits, what it brings to a sum, and how far its four kinds are from its exact grams.
-- Assumes nothing.
use mathlib.Core.Path.{◌≡◌, ◌∙◌}
use mathlib.Core.Bool.{Bool, true, false, cond}
use mathlib.Core.List.{List}
use Prim.Native.Nat.{ℕ, ◌+◌, ◌*◌, ◌/◌, ◌%◌, ◌≤◌, ◌<◌}
use native.Mathlib.Nat.{mul-le-mul_left}
use native.Mathlib.Omega.{arith}
use borrow.Author.Tests.{eqb-true}
use lib.Dec.{eqb, lit<}
use lib.ListN.{get_or}
use Rattle.units.specs.Grounds.{first_fit}
use Rattle.units.specs.Rounding.{half_up}
use Rattle.units.specs.Fractions.{Fraction, over, plus}
use Rattle.units.proofs.Tab.{tab_at}
use Rattle.units.proofs.Tests.{and_left}
use Rattle.classes.specs.Classes.{fuel_of, has_cold, x_count, x_place}
use Rattle.factors.specs.Factors.{emission_factor}
use Rattle.classes.proofs.Classes.{x_below}
use Rattle.factors.proofs.Factors.{factor_most}
use Rattle.calendar.proofs.Periods.{weight_positive}
use Rattle.coldstart.specs.ColdStart.{x_denominator, cold_x, cold_factor}
use Rattle.coldstart.proofs.ColdStart.{x_of_class, cold_high, cold_low}
use Rattle.inventory.specs.declared.Head.{Head}
use Rattle.inventory.specs.declared.Record.{Record}
use Rattle.inventory.specs.Records.{record_grounds, vehicle_km, speed_of}
use Rattle.inventory.specs.Limits.{RecordLimits}
use Rattle.inventory.specs.Adding.{hot_part, cold_rate, cold_part, part_of, part_at}
use Rattle.inventory.specs.Order.{place}
use Rattle.inventory.specs.Opening.{open_number}
use Rattle.inventory.proofs.Records.{period_taken, record_limits}
use Rattle.accuracy.specs.Reference.{acceptable, accepts, weight_of, exact_x, exact_hot, exact_cold, exact_of}
use Rattle.accuracy.specs.Conditions.{head_x}
use Rattle.accuracy.proofs.Near.{Near, near_plus}

-- what a record brings to the four kinds of a fuel and a quantity, in billionths of a gram
unfoldable pub brings : List ℕ → ℕ → ℕ → Record → ℕ
brings xs fuel quantity rec =
    part_at xs rec (place fuel quantity 0) + part_at xs rec (place fuel quantity 1) + part_at xs rec (place fuel quantity 2) + part_at xs rec (place fuel quantity 3)

-- ---- an accepted record is within the limits

pub accepted_limits : (room : Bool) (rec : Record) → accepts room rec ≡ true → RecordLimits rec
unfolding accepts acceptable
accepted_limits room rec e = record_limits rec (eqb-true (first_fit (record_grounds rec)) 0 (and_left (eqb (first_fit (record_grounds rec)) 0) room e))

-- ---- to a sum of its own fuel it brings its part, to any other nothing

pub slot_part : (xs : List ℕ) (rec : Record) (fuel quantity kind : ℕ) → quantity < 5 → kind < 4
    → part_at xs rec (place fuel quantity kind) ≡ cond (eqb fuel (fuel_of rec.class)) (part_of xs rec quantity kind) 0
unfolding part_at
slot_part xs rec fuel quantity kind q k =
    let d : (fuel * 20 + quantity * 4 + kind) / 20 ≡ fuel = omega arith in
    let m : (fuel * 20 + quantity * 4 + kind) % 20 / 4 ≡ quantity = omega arith in
    let n : (fuel * 20 + quantity * 4 + kind) % 4 ≡ kind = omega arith in
    rw (d, m, n)

-- ---- its four kinds are at most 1.5 g per 10^7 of its kilometres from its exact grams

-- the denominator of the exact sums is positive for a head that opening takes
pub weight_of_taken : (head : Head) → open_number head ≡ 0 → 0 < weight_of head
weight_of_taken head taken = weight_positive head.period (period_taken head taken)

-- K times the rounded cold factor in billionths of a gram, and K × E × unrounded X over 10^16 d, its denominators multiplied out;
-- b says whether the class has a cold part
cold_near : (b : Bool) (k e s d : ℕ) → 0 < d → e ≤ 2000000000
    → Near (k * cond b (cold_factor e (half_up s d)) 0 * 100) (over (cond b (k * e * s) 0) (10000000000000000 * d)) k
cold_near true k e s d p h =
    record { high = omega (arith, mul-le-mul_left k (cold_high e s d h)); low = omega (arith, mul-le-mul_left k (cold_low e s d h p)) }
cold_near false k e s d p h = record { high = omega arith; low = omega arith }

-- X of a class and a quantity is the unrounded one, rounded once
pub x_rounded : (head : Head) (class quantity : ℕ) → quantity < 5
    → get_or (head_x head) (x_place class quantity) 0 ≡ half_up (exact_x head class quantity).numerator (x_denominator (weight_of head))
x_rounded head class quantity q =
    tab_at 0 (cold_x head.period head.trip head.temps) x_count (x_place class quantity) (x_below class quantity q)
    ∙ x_of_class head.period head.trip head.temps class quantity q

abbrev four : List ℕ → Record → ℕ → ℕ
four xs rec quantity = part_of xs rec quantity 0 + part_of xs rec quantity 1 + part_of xs rec quantity 2 + part_of xs rec quantity 3

-- xs are the head's values X at each place: those of the run that the record is added to
module _ (head : Head) (positive : 0 < weight_of head) (xs : List ℕ) (same : (i : ℕ) → i < x_count → get_or xs i 0 ≡ get_or (head_x head) i 0) where
  four_near : (rec : Record) → RecordLimits rec → (quantity : ℕ) → quantity < 5 → Near (four xs rec quantity) (exact_of head rec quantity) (vehicle_km rec)
  unfolding part_of hot_part cold_part cold_rate exact_of exact_hot exact_cold
  four_near rec o quantity q =
      let e : ℕ = emission_factor rec.class quantity 0 (speed_of rec 0) in
      let cold =
      cold_near (has_cold rec.class) (vehicle_km rec) e (exact_x head rec.class quantity).numerator (x_denominator (weight_of head)) (omega (arith, positive))
      (factor_most rec.class quantity 0 (speed_of rec 0) (o.driven 0 (lit< tt)) q (lit< tt)) in
      rw (same (x_place rec.class quantity) (x_below rec.class quantity q) ∙ x_rounded head rec.class quantity q)
      (record { high = omega (arith, cold.high); low = omega (arith, cold.low) })

  -- with the record in it, a total near t is near what the reference has then
  pub record_near : (fuel quantity s k : ℕ) (t : Fraction) (rec : Record) → quantity < 5 → RecordLimits rec → Near s t k
      → Near (s + brings xs fuel quantity rec)
      (cond (eqb fuel (fuel_of rec.class)) (plus t (exact_of head rec quantity)) t) (cond (eqb fuel (fuel_of rec.class)) (k + vehicle_km rec) k)
  unfolding brings
  record_near fuel quantity s k t rec q o p =
      let at : (kind : ℕ) → kind < 4 → part_at xs rec (place fuel quantity kind) ≡ cond (eqb fuel (fuel_of rec.class)) (part_of xs rec quantity kind) 0 =
      λ kind l. slot_part xs rec fuel quantity kind q l in
      rw (at 0 (lit< tt), at 1 (lit< tt), at 2 (lit< tt), at 3 (lit< tt)) (by (eqb fuel (fuel_of rec.class)))
    where
      -- b says whether the fuel is the record's
      by : (b : Bool)
          → Near (s + (cond b (part_of xs rec quantity 0) 0 + cond b (part_of xs rec quantity 1) 0 + cond b (part_of xs rec quantity 2) 0 + cond b (part_of xs rec quantity 3) 0))
          (cond b (plus t (exact_of head rec quantity)) t) (cond b (k + vehicle_km rec) k)
      by true = near_plus s (four xs rec quantity) k (vehicle_km rec) t (exact_of head rec quantity) p (four_near rec o quantity q)
      by false = record { high = omega (arith, p.high); low = omega (arith, p.low) }
