-- Laws of what a record brings to a run. Assumes nothing.
use mathlib.Core.Path.{◌≡◌, refl, ◌∙◌}
use mathlib.Core.Bool.{Bool, true, false, not, cond, ◌&&◌}
use mathlib.Core.List.{List}
use Prim.Native.Nat.{ℕ, ◌+◌, ◌*◌, ◌/◌, ◌%◌, ◌≤◌, ◌<◌}
use native.Mathlib.Nat.{mul-le-mul}
use native.Mathlib.Omega.{arith}
use lib.ListN.{get_or}
use lib.Dec.{ltb, leb, eqb}
use borrow.Author.Tests.{lt-ltb, lt-leb, le-leb, eq-eqb, ne_eqb, ltb-true, ltb-false}
use Rattle.units.specs.Grounds.{first_fit}
use Rattle.classes.specs.Classes.{fuel_of, has_cold}
use Rattle.classes.proofs.Classes.{x_below}
use Rattle.factors.proofs.Factors.{factor_most}
use Rattle.coldstart.specs.ColdStart.{cold_factor}
use Rattle.coldstart.proofs.ColdStart.{cold_factor_most}
use Rattle.inventory.specs.declared.Record.{Record}
use Rattle.inventory.specs.declared.Run.{Run}
use Rattle.inventory.specs.Records.{record_grounds, vehicle_km, share_of, speed_of}
use Rattle.inventory.specs.Order.{in_order, grams_in, rest_in, sum_at, record_limit}
use Rattle.inventory.specs.Limits.{RecordLimits, XLimits, RunLimits}
use Rattle.inventory.proofs.Records.{record_taken}
use Rattle.inventory.proofs.Amounts.{amount_grams, amount_rest}
use Rattle.inventory.specs.Adding.{factor_of, hot_part, x_of, cold_rate, cold_part, part_of, part_at, slot_after, km_of, add_grounds, add_number}

-- ---- the number of an add

-- a test and its opposite
room : (n b : ℕ) (t : Bool) → ltb n b ≡ t → not (leb b n) ≡ t
room n b true e = rw (lt-leb b n (ltb-true n b e))
room n b false e = rw (le-leb b n (ltb-false n b e))

-- on a run in order an add takes its record exactly where no ground of the record fits and there is room
pub add_taken : (run : Run) (rec : Record) → in_order run ≡ true
    → eqb (add_number run rec) 0 ≡ (eqb (first_fit (record_grounds rec)) 0 && ltb run.count record_limit)
unfolding add_number add_grounds first_fit
add_taken run rec o =
    rw (o, ← room run.count 5000 (ltb run.count 5000) refl) (record_taken rec 9 (leb 5000 run.count) refl)

-- ---- how much a record brings

cond_most : (b : Bool) (n m : ℕ) → n ≤ m → cond b n 0 ≤ m
cond_most true n m h = h
cond_most false n m h = omega arith

module _ (rec : Record) (lim : RecordLimits rec) where
  pub factor_high : (quantity road : ℕ) → quantity < 5 → road < 3 → factor_of rec quantity road ≤ 2000000000
  factor_high quantity road h l = factor_most rec.class quantity road (speed_of rec road) (lim.driven road l) h l

  hot_most : (quantity road : ℕ) → quantity < 5 → road < 3 → hot_part rec quantity road ≤ 1000000000000000000000
  unfolding hot_part
  hot_most quantity road h l = omega (arith, mul-le-mul (mul-le-mul lim.distance (lim.share road l)) (factor_high quantity road h l))

  pub km_of_most : (fuel : ℕ) → km_of rec fuel ≤ 1000000000
  unfolding km_of
  km_of_most fuel = cond_most (eqb fuel (fuel_of rec.class)) (vehicle_km rec) 1000000000 lim.distance

  module _ (xs : List ℕ) (high : XLimits xs) where
    pub rate_most : (quantity : ℕ) → quantity < 5 → cold_rate xs rec quantity ≤ 9800000000
    unfolding cold_rate
    rate_most quantity h =
        cond_most (has_cold rec.class) (cold_factor (factor_of rec quantity 0) (x_of xs rec.class quantity)) 9800000000
        (cold_factor_most _ _ (factor_high quantity 0 h (omega arith)) (high _ (x_below rec.class quantity h)))

    cold_most : (quantity : ℕ) → quantity < 5 → cold_part xs rec quantity ≤ 1000000000000000000000
    unfolding cold_part
    cold_most quantity h = omega (arith, mul-le-mul lim.distance (rate_most quantity h))

    part_by : (quantity kind : ℕ) (b : Bool) → ltb kind 3 ≡ b → quantity < 5 → part_of xs rec quantity kind ≤ 1000000000000000000000
    unfolding part_of
    part_by quantity kind true e h = rw e (hot_most quantity kind h (ltb-true kind 3 e))
    part_by quantity kind false e h = rw e (cold_most quantity h)

-- one record brings at most 10^12 g to a sum
pub part_most : (xs : List ℕ) (rec : Record) → RecordLimits rec → XLimits xs → (j : ℕ) → j < 60
    → part_at xs rec j ≤ 1000000000000000000000
unfolding part_at
part_most xs rec lim high j h =
    cond_most (eqb (j / 20) (fuel_of rec.class)) (part_of xs rec (j % 20 / 4) (j % 4)) 1000000000000000000000
    (part_by rec lim xs high (j % 20 / 4) (j % 4) (ltb (j % 4) 3) refl (omega arith))

-- ---- the slots of a record's fuel, and the others

pub at_fuel : (xs : List ℕ) (rec : Record) (j : ℕ) → j / 20 ≡ fuel_of rec.class → part_at xs rec j ≡ part_of xs rec (j % 20 / 4) (j % 4)
unfolding part_at
at_fuel xs rec j e = rw (eq-eqb (j / 20) (fuel_of rec.class) e)

pub at_other : (xs : List ℕ) (rec : Record) (j : ℕ) → (j / 20 ≡ fuel_of rec.class → ⊥) → part_at xs rec j ≡ 0
unfolding part_at
at_other xs rec j e = rw (ne_eqb (j / 20) (fuel_of rec.class) e)

-- the four slots of a quantity
module _ (run : Run) (rec : Record) (fuel q : ℕ) (ef : fuel ≡ fuel_of rec.class) (hq : q < 5) where
  slot_part : (kind j : ℕ) → kind < 4 → j ≡ fuel * 20 + q * 4 + kind → part_at run.x rec j ≡ part_of run.x rec q kind
  slot_part kind j h e =
      let a : j / 20 ≡ fuel = omega arith in
      let b : j % 20 / 4 ≡ q = omega arith in
      let d : j % 4 ≡ kind = omega arith in
      rw (at_fuel run.x rec j (a ∙ ef), b, d)

  pub hot_slot : (kind j : ℕ) → kind < 3 → j ≡ fuel * 20 + q * 4 + kind
      → grams_in run j * 1000000000 + rest_in run j + vehicle_km rec * share_of rec kind * factor_of rec q kind ≡ sum_at run j + part_at run.x rec j
  unfolding sum_at part_of hot_part
  hot_slot kind j h e = rw (slot_part kind j (omega arith) e, lt-ltb kind 3 h)

  pub cold_slot : (j : ℕ) → j ≡ fuel * 20 + q * 4 + 3
      → grams_in run j * 1000000000 + rest_in run j + vehicle_km rec * cold_rate run.x rec q * 100 ≡ sum_at run j + part_at run.x rec j
  unfolding sum_at part_of cold_part
  cold_slot j e = rw (slot_part 3 j (omega arith) e)

-- a slot of another fuel keeps what it has
module _ (run : Run) (rec : Record) (lim : RunLimits run) (j : ℕ) (h : j < 60) (other : j / 20 ≡ fuel_of rec.class → ⊥) where
  pub kept_grams : get_or run.grams j (record { 0 = 0 }) ≡ (slot_after run rec j).grams
  unfolding slot_after sum_at
  kept_grams = rw (at_other run.x rec j other) (amount_grams _ _ _ (omega arith) (lim.rest_below j h))

  pub kept_rest : rest_in run j ≡ (slot_after run rec j).rest
  unfolding slot_after sum_at
  kept_rest = rw (at_other run.x rec j other) (amount_rest _ (get_or run.grams j (record { 0 = 0 })) _ (omega arith) (lim.rest_below j h))
