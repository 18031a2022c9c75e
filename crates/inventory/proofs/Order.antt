-- Laws of `in_order`: what each test of `in_order` says of it, and what a run in order has. Assumes nothing.
use mathlib.Core.Path.{◌≡◌, refl}
use mathlib.Core.Bool.{Bool, true, false, not, ◌&&◌}
use Prim.Native.Nat.{ℕ, ◌+◌, ◌*◌, ◌/◌, ◌%◌, ◌<◌, ◌≤◌}
use native.Mathlib.Omega.{arith}
use lib.Dec.{leb, ltb, eqb}
use borrow.Author.Tests.{le-leb, leb-true, ltb-true, lt-ltb, eq-eqb, ne_eqb, eqb-true, not-true}
use Rattle.units.specs.Lists.{all_below}
use Rattle.units.specs.Grounds.{outside}
use Rattle.units.proofs.Tests.{and_left, and_right, at, all, inside, inside_low, inside_high}
use Rattle.classes.specs.Classes.{x_count}
use Rattle.inventory.specs.declared.Run.{Run}
use Rattle.inventory.specs.Order.{grams_in, rest_in, km_in, sum_at, place, exact_total, x_ok, sum_within, sum_ok, km_ok, is_amount, total_ok, sums_ok, in_order}
use Rattle.inventory.specs.Limits.{XLimits, RunLimits, TotalLimits}

-- ---- one sum

pub sum_good : (limit g r : ℕ) → r < 1000000000 → g * 1000000000 + r ≤ limit * 1000000000 → sum_within limit g r ≡ true
unfolding sum_within
sum_good limit g r a b = rw (lt-ltb r 1000000000 a, le-leb (g * 1000000000 + r) (limit * 1000000000) b)

-- ---- one total

pub amount_good : (n g r : ℕ) → r < 1000000000 → g * 1000000000 + r ≡ n → is_amount n g r ≡ true
unfolding is_amount
amount_good n g r a b = rw (lt-ltb r 1000000000 a, eq-eqb (g * 1000000000 + r) n b)

pub amount_bad : (n g r : ℕ) → (r < 1000000000 → g * 1000000000 + r ≡ n → ⊥) → is_amount n g r ≡ false
unfolding is_amount
amount_bad n g r a = by (ltb r 1000000000) refl
  where
    by : (t : Bool) → ltb r 1000000000 ≡ t → (t && eqb (g * 1000000000 + r) n) ≡ false
    by true e = ne_eqb (g * 1000000000 + r) n (a (ltb-true r 1000000000 e))
    by false e = refl

pub amount_below : (n g r : ℕ) → is_amount n g r ≡ true → r < 1000000000
unfolding is_amount
amount_below n g r h = ltb-true _ _ (and_left (ltb r 1000000000) _ h)

pub amount_is : (n g r : ℕ) → is_amount n g r ≡ true → g * 1000000000 + r ≡ n
unfolding is_amount
amount_is n g r h = eqb-true _ _ (and_right (ltb r 1000000000) _ h)

-- ---- the tests of the run

-- the tests of `in_order` in their order, up to each
abbrev to_trip : Run → Bool
to_trip run = not (outside 10 200 run.trip)

abbrev to_x : Run → Bool
to_x run = to_trip run && all_below (x_ok run) x_count

abbrev to_count : Run → Bool
to_count run = to_x run && leb run.count 5000

abbrev to_sums : Run → Bool
to_sums run = to_count run && sums_ok run

module _ (run : Run) where
  -- the sums of a run whose sums passed
  module _ (s : all_below (sum_ok run) 60 ≡ true) where
    pub rest_passed : (j : ℕ) → j < 60 → rest_in run j < 1000000000
    unfolding sum_within
    rest_passed j h = ltb-true _ _ (and_left (ltb (rest_in run j) 1000000000) _ (at (sum_ok run) 60 s j h))

    sum_passed : (j : ℕ) → j < 60 → sum_at run j ≤ 1000000000000000000000 * run.count
    unfolding sum_within sum_at
    sum_passed j h =
        let l : grams_in run j * 1000000000 + rest_in run j ≤ 1000000000000 * run.count * 1000000000 =
        leb-true _ _ (and_right (ltb (rest_in run j) 1000000000) _ (at (sum_ok run) 60 s j h)) in
        omega arith

    pub grams_passed : run.count ≤ 5000 → (j : ℕ) → j < 60 → grams_in run j ≤ 5000000000000000
    unfolding sum_at
    grams_passed c j h = let s : grams_in run j * 1000000000 + rest_in run j ≤ 1000000000000000000000 * run.count = sum_passed j h in omega arith

  -- what a run in order has
  module _ (o : in_order run ≡ true) where
    passed_sums : to_sums run ≡ true
    unfolding in_order
    passed_sums = and_left (to_sums run) (all_below (km_ok run) 3) o

    passed_count : to_count run ≡ true
    passed_count = and_left (to_count run) (sums_ok run) passed_sums

    passed_x : to_x run ≡ true
    passed_x = and_left (to_x run) (leb run.count 5000) passed_count

    in-trip : outside 10 200 run.trip ≡ false
    in-trip = not-true (outside 10 200 run.trip) (and_left (to_trip run) (all_below (x_ok run) x_count) passed_x)

    pub trip_of : (10 ≤ run.trip) × (run.trip ≤ 200)
    trip_of = (inside_low 10 200 run.trip in-trip, inside_high 10 200 run.trip in-trip)

    pub count_of : run.count ≤ 5000
    count_of = leb-true run.count 5000 (and_right (to_x run) (leb run.count 5000) passed_count)

    pub x_of_lem : XLimits run.x
    x_of_lem i h = leb-true _ _ (at (x_ok run) x_count (and_right (to_trip run) (all_below (x_ok run) x_count) passed_x) i h)

    both_of : sums_ok run ≡ true
    both_of = and_right (to_count run) (sums_ok run) passed_sums

    sums_of : all_below (sum_ok run) 60 ≡ true
    sums_of = and_left (all_below (sum_ok run) 60) (all_below (total_ok run) 15) both_of

    pub rest_of : (j : ℕ) → j < 60 → rest_in run j < 1000000000
    rest_of = rest_passed sums_of

    pub sum_most : (j : ℕ) → j < 60 → sum_at run j ≤ 1000000000000000000000 * run.count
    sum_most = sum_passed sums_of

    pub km_of_lem : (fuel : ℕ) → fuel < 3 → km_in run fuel ≤ 1000000000 * run.count
    unfolding in_order
    km_of_lem fuel h = leb-true _ _ (at (km_ok run) 3 (and_right (to_sums run) (all_below (km_ok run) 3) o) fuel h)

    pub run_limits : RunLimits run
    run_limits =
        record {
          few = count_of;
          x_most_lem = x_of_lem;
          rest_below = rest_of;
          grams_most = grams_passed sums_of count_of;
          km_most = λ fuel h. omega (arith, km_of_lem fuel h, count_of);
        }

    pub total_of_lem : (k : ℕ) → k < 15 → total_ok run k ≡ true
    total_of_lem k h = at (total_ok run) 15 (and_right (all_below (sum_ok run) 60) (all_below (total_ok run) 15) both_of) k h

    pub sum_at_most : (j : ℕ) → j < 60 → sum_at run j ≤ 5000000000000000000000000
    sum_at_most j h = omega (arith, sum_most j h, count_of)

    -- an exact total is at most 2 × 10^16 g
    pub exact_most : (fuel quantity : ℕ) → fuel < 3 → quantity < 5 → exact_total run fuel quantity ≤ 20000000000000000000000000
    unfolding exact_total
    exact_most fuel quantity a b =
        omega (arith, sum_at_most (place fuel quantity 0) (omega arith), sum_at_most (place fuel quantity 1) (omega arith), sum_at_most (place fuel quantity 2) (omega arith), sum_at_most (place fuel quantity 3) (omega arith))

    pub total_limits : TotalLimits run
    total_limits =
        record {
          rest_below = λ k h. amount_below _ _ _ (total_of_lem k h);
          grams_most = λ k h. omega (arith, amount_is _ _ _ (total_of_lem k h), exact_most (k / 5) (k % 5) (omega arith) (omega arith));
          exact = λ k h. amount_is _ _ _ (total_of_lem k h);
        }

-- the way back
pub order_by : (run : Run) → 10 ≤ run.trip → run.trip ≤ 200 → run.count ≤ 5000 → XLimits run.x
    → ((j : ℕ) → j < 60 → rest_in run j < 1000000000) → ((j : ℕ) → j < 60 → sum_at run j ≤ 1000000000000000000000 * run.count)
    → ((f : ℕ) → f < 3 → km_in run f ≤ 1000000000 * run.count) → ((k : ℕ) → k < 15 → total_ok run k ≡ true) → in_order run ≡ true
unfolding in_order sum_at
order_by run a b d x r s k t =
    rw (
      inside 10 200 run.trip a b,
      all (x_ok run) x_count (λ i h. le-leb _ _ (x i h)),
      le-leb run.count 5000 d,
      all (sum_ok run) 60 (λ j h. sum_good _ _ _ (r j h) (omega (arith, s j h))),
      all (total_ok run) 15 t,
      all (km_ok run) 3 (λ f h. le-leb _ _ (k f h)),
    )
