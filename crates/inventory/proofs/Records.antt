-- What a head and a record have that no ground fits. Assumes nothing.
use mathlib.Core.Path.{◌≡◌, refl}
use mathlib.Core.Bool.{Bool, true, false, not, cond, ◌||◌, ◌&&◌}
use mathlib.Core.List.{[], ◌∷◌, ◌++◌}
use Prim.Native.Nat.{ℕ, zero, suc, ◌+◌, ◌≤◌, ◌<◌}
use native.Mathlib.Omega.{arith}
use lib.Dec.{eqb, ltb}
use borrow.Author.Tests.{ltb-false, not-false}
use Rattle.units.specs.Lists.{all_below}
use Rattle.units.specs.Grounds.{ground, first_fit, outside}
use Rattle.units.proofs.Grounds.{passed, none_fits, fit_append}
use Rattle.units.proofs.Tests.{or_false_left, or_false_right, inside_low, inside_high, at}
use Rattle.factors.specs.Factors.{Driven}
use Rattle.calendar.specs.Periods.{period_grounds, TakenPeriod}
use Rattle.coldstart.specs.ColdStart.{Climate}
use Rattle.inventory.specs.declared.Head.{Head}
use Rattle.inventory.specs.declared.Record.{Record}
use Rattle.inventory.specs.Records.{month_ok, temperatures_wrong, head_grounds, vehicle_km, shares_wrong, speeds_wrong, record_grounds, share_of, speed_of}
use Rattle.inventory.specs.Limits.{RecordLimits}
use Rattle.inventory.specs.Opening.{open_number}

-- what holds of 0, 1 and 2 holds below 3
pub three : (P : ℕ → Type 0) → P 0 → P 1 → P 2 → (i : ℕ) → i < 3 → P i
three P a b d zero h = a
three P a b d (suc zero) h = b
three P a b d (suc (suc zero)) h = d
three P a b d (suc (suc (suc i))) h = absurd (omega arith)

-- none of three tests fits
none_of_three : (a b c : Bool) → (a || b || c) ≡ false → (a ≡ false) × (b ≡ false) × (c ≡ false)
none_of_three a b c h =
    let l = or_false_left (a || b) c h in
    (or_false_left a b l, or_false_right a b l, or_false_right (a || b) c h)

pub climate : (head : Head) → open_number head ≡ 0 → Climate head.trip head.temps
unfolding open_number head_grounds temperatures_wrong period_grounds
climate head z =
    let p = passed (head_grounds head) tt z in
    record {
      trip_low = inside_low 10 200 head.trip p.0;
      trip_high = inside_high 10 200 head.trip p.0;
      temperatures = λ k h. at (month_ok head) 12 (not-false (all_below (month_ok head) 12) p.1.0) k h;
    }

pub period_taken : (head : Head) → open_number head ≡ 0 → TakenPeriod head.period
unfolding open_number head_grounds period_grounds
period_taken head z = none_fits (period_grounds head.period) (passed (head_grounds head) tt z).1.1

pub record_limits : (rec : Record) → first_fit (record_grounds rec) ≡ 0 → RecordLimits rec
unfolding record_grounds shares_wrong speeds_wrong
record_limits rec z =
    let p = passed (record_grounds rec) tt z in
    let shares = p.1.1.1.1.0 in
    let over = or_false_left
    (ltb 100 rec.shares.urban || ltb 100 rec.shares.rural || ltb 100 rec.shares.highway)
    (not (eqb (rec.shares.urban + rec.shares.rural + rec.shares.highway) 100)) shares in
    let s = none_of_three (ltb 100 rec.shares.urban) (ltb 100 rec.shares.rural) (ltb 100 rec.shares.highway) over in
    let v = none_of_three (outside 10 130 rec.speeds.urban.0) (outside 10 130 rec.speeds.rural.0) (outside 10 130 rec.speeds.highway.0) p.1.1.1.1.1.0 in
    let driven : (v : ℕ) → outside 10 130 v ≡ false → Driven rec.class v =
    λ v h. record {
      class_low = inside_low 1 7 rec.class p.0;
      class_high = inside_high 1 7 rec.class p.0;
      speed_low = inside_low 10 130 v h;
      speed_high = inside_high 10 130 v h;
    } in
    record {
      distance = ltb-false 1000000000 (vehicle_km rec) p.1.1.1.0;
      share = three (λ i. share_of rec i ≤ 100) (ltb-false 100 _ s.0) (ltb-false 100 _ s.1) (ltb-false 100 _ s.2);
      driven = three (λ i. Driven rec.class (speed_of rec i)) (driven _ v.0) (driven _ v.1) (driven _ v.2);
    }

-- ---- a record's own grounds, then a last one

last_by : (a b : Bool) (k n : ℕ) → eqb k 0 ≡ false → eqb n 0 ≡ a → eqb (cond a (cond b k 0) n) 0 ≡ (a && not b)
last_by true true k n h e = h
last_by true false k n h e = refl
last_by false b k n h e = e

module _ (rec : Record) (k : ℕ) (b : Bool) where
  -- the last decides where none of the others fits
  pub record_then : first_fit (record_grounds rec ++ (ground k b ∷ [])) ≡ cond (eqb (first_fit (record_grounds rec)) 0) (cond b k 0) (first_fit (record_grounds rec))
  unfolding first_fit record_grounds
  record_then = fit_append (record_grounds rec) (ground k b ∷ []) tt

  pub record_taken : eqb k 0 ≡ false → eqb (first_fit (record_grounds rec ++ (ground k b ∷ []))) 0 ≡ (eqb (first_fit (record_grounds rec)) 0 && not b)
  record_taken h = rw record_then (last_by (eqb (first_fit (record_grounds rec)) 0) b k (first_fit (record_grounds rec)) h refl)
