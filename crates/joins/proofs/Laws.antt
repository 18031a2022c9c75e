-- Laws of joining: what a taken join has, and what the run of both has. Assumes nothing.
use mathlib.Core.Path.{◌≡◌, refl, ap, sym}
use mathlib.Core.Bool.{Bool, true, false, cond}
use Prim.Native.Nat.{ℕ, zero, suc, ◌+◌, ◌≤◌, ◌<◌}
use native.Mathlib.Omega.{arith}
use lib.Dec.{eqb, ltb}
use borrow.Author.Tests.{eqb-true, le-ltb, lt-ltb, ltb-false, not-false}
use Rattle.units.specs.Grounds.{first_fit}
use Rattle.units.specs.Lists.{sum_to}
use Rattle.units.proofs.Grounds.{NoneFits, passed}
use Rattle.units.proofs.Sums.{fewer_terms}
use Rattle.units.proofs.Tab.{tab_at}
use Rattle.inventory.specs.declared.Run.{Run}
use Rattle.inventory.specs.Order.{in_order, same_head, grams_in, rest_in, km_in, sum_at, place, exact_total}
use Rattle.inventory.specs.Adding.{with_totals}
use Rattle.inventory.proofs.Heads.{trip_same, x_same, head_by, head_self, head_back, head_on}
use Rattle.inventory.proofs.Amounts.{value, rest_small}
use Rattle.inventory.proofs.Stored.{total_kept}
use Rattle.inventory.proofs.Order.{trip_of, x_of_lem, sum_most, km_of_lem, order_by}
use Rattle.joins.specs.Joining.{join_grounds, join_number, slot_joined, grams_joined, rest_joined, km_joined, added_up, joined, join_run, joined_to}

-- ---- the number of a join, test by test

module _ (a b : Run) where
  pub first_unordered : in_order a ≡ false → 16 ≡ join_number a b
  unfolding join_number join_grounds first_fit
  first_unordered o = rw o

  module _ (o : in_order a ≡ true) where
    pub second_unordered : in_order b ≡ false → 16 ≡ join_number a b
    unfolding join_number join_grounds first_fit
    second_unordered p = rw (o, p)

    module _ (p : in_order b ≡ true) where
      pub heads_differ_lem : same_head a b ≡ false → 21 ≡ join_number a b
      unfolding join_number join_grounds first_fit
      heads_differ_lem s = rw (o, p, s)

      pub counted : same_head a b ≡ true → cond (ltb 5000 (a.count + b.count)) 22 0 ≡ join_number a b
      unfolding join_number join_grounds first_fit
      counted s = rw (o, p, s)

      pub too_many : same_head a b ≡ true → 5000 < a.count + b.count → 22 ≡ join_number a b
      too_many s h = let e : ltb 5000 (a.count + b.count) ≡ true = lt-ltb _ _ h in rw e at (counted s)

      pub good_join : same_head a b ≡ true → a.count + b.count ≤ 5000 → 0 ≡ join_number a b
      good_join s h = let e : ltb 5000 (a.count + b.count) ≡ false = le-ltb _ _ h in rw e at (counted s)

  -- what a join has that is taken
  pub record Taken : Type 0 where
    pub first : in_order a ≡ true
    pub second : in_order b ≡ true
    pub same : same_head a b ≡ true
    pub few : a.count + b.count ≤ 5000

  pub taken : join_number a b ≡ 0 → Taken
  unfolding join_number join_grounds
  taken z =
      let p : NoneFits (join_grounds a b) = passed (join_grounds a b) tt z in
      record {
        first = not-false (in_order a) p.0;
        second = not-false (in_order b) p.1.0;
        same = not-false (same_head a b) p.1.1.0;
        few = ltb-false 5000 (a.count + b.count) p.1.1.1.0;
      }

  pub run_kept : (n : ℕ) → n ≡ join_number a b → eqb n 0 ≡ false → a ≡ join_run a b
  unfolding join_run
  run_kept n e h = rw (← e, h)

  pub run_joined : join_number a b ≡ 0 → joined a b ≡ join_run a b
  unfolding join_run
  run_joined e = rw e

-- ---- the run of both

module _ (a b : Run) where
  pub km_in_lem : (fuel : ℕ) → fuel < 3 → km_in (joined a b) fuel ≡ km_in a fuel + km_in b fuel
  unfolding joined with_totals added_up km_joined
  km_in_lem fuel h = ap (λ v. v.0) (tab_at (record { 0 = 0 }) (km_joined a b) 3 fuel h)

  rest_in_lem : (j : ℕ) → j < 60 → rest_in (joined a b) j ≡ (slot_joined a b j).rest
  unfolding joined with_totals added_up
  rest_in_lem j h = tab_at 0 (rest_joined a b) 60 j h

  pub sum_in : (j : ℕ) → j < 60 → sum_at (joined a b) j ≡ sum_at a j + sum_at b j
  unfolding sum_at joined with_totals added_up slot_joined
  sum_in j h =
      let g : grams_in (joined a b) j ≡ (slot_joined a b j).grams.0 = ap (λ g. g.0) (tab_at (record { 0 = 0 }) (grams_joined a b) 60 j h) in
      rw (g, rest_in_lem j h) (value _)

  -- and so are the totals
  pub exact_in_lem : (fuel quantity : ℕ) → fuel < 3 → quantity < 5 → exact_total (joined a b) fuel quantity ≡ exact_total a fuel quantity + exact_total b fuel quantity
  unfolding exact_total
  exact_in_lem fuel quantity f q =
      omega (arith, sum_in (place fuel quantity 0) (omega arith), sum_in (place fuel quantity 1) (omega arith), sum_in (place fuel quantity 2) (omega arith), sum_in (place fuel quantity 3) (omega arith))

  pub order_joined : in_order a ≡ true → in_order b ≡ true → a.count + b.count ≤ 5000 → in_order (joined a b) ≡ true
  unfolding joined with_totals added_up slot_joined
  order_joined o p few =
      order_by (joined a b) (trip_of a o).0 (trip_of a o).1 few (x_of_lem a o)
      (λ j h. rw (rest_in_lem j h) (rest_small _))
      (λ j h. omega (arith, sum_in j h, sum_most a o j h, sum_most b p j h))
      (λ f h. omega (arith, km_in_lem f h, km_of_lem a o f h, km_of_lem b p f h)) (total_kept _)

  -- a refused join is the first run: what both have, the joined has
  pub order_kept : in_order a ≡ true → in_order (join_run a b) ≡ true
  unfolding join_run
  order_kept o = by (eqb (join_number a b) 0) refl
    where
      by : (t : Bool) → eqb (join_number a b) 0 ≡ t → in_order (cond t (joined a b) a) ≡ true
      by true e = let z = taken a b (eqb-true _ 0 e) in order_joined o z.second z.few
      by false e = o

  pub head_joined : (c : Run) → same_head a c ≡ true → same_head (joined a b) c ≡ true
  unfolding joined with_totals added_up
  head_joined c s = head_by (joined a b) c (trip_same a c s) (x_same a c s)

-- ---- many runs of one L and X, together at most 5,000 records: no join is refused

-- what the runs joined so far have
pub record Several (runs : ℕ → Run) (n : ℕ) (run : Run) : Type 0 where
  pub order : in_order run ≡ true
  pub head : same_head (runs 0) run ≡ true
  pub count : run.count ≡ sum_to (λ i. (runs i).count) (suc n)

module _ (runs : ℕ → Run) (m : ℕ) (order : (i : ℕ) → i ≤ m → in_order (runs i) ≡ true) (heads : (i : ℕ) → i ≤ m → same_head (runs 0) (runs i) ≡ true)
    (few : sum_to (λ i. (runs i).count) (suc m) ≤ 5000) where
  next_taken : (n : ℕ) (run : Run) → n < m → Several runs n run → join_number run (runs (suc n)) ≡ 0
  unfolding sum_to
  next_taken n run h s =
      let most : sum_to (λ i. (runs i).count) (suc (suc n)) ≤ 5000 = omega (arith, fewer_terms (λ i. (runs i).count) (suc (suc n)) (suc m) (omega arith), few) in
      sym (good_join run (runs (suc n)) s.order (order (suc n) (omega arith))
      (head_on run (runs 0) (runs (suc n)) (head_back (runs 0) run s.head) (heads (suc n) (omega arith))) (omega (arith, most, s.count)))

  pub several : (n : ℕ) → n ≤ m → Several runs n (joined_to runs n)
  unfolding joined_to sum_to joined with_totals added_up
  several zero h = record { order = order 0 (omega arith); head = head_self (runs 0); count = omega arith }
  several (suc n) h =
      let s = several n (omega arith) in
      let z = next_taken n (joined_to runs n) (omega arith) s in
      let t = taken (joined_to runs n) (runs (suc n)) z in
      rw (← run_joined (joined_to runs n) (runs (suc n)) z)
      (record {
        order = order_joined (joined_to runs n) (runs (suc n)) t.first t.second t.few;
        head = head_back _ _ (head_joined (joined_to runs n) (runs (suc n)) (runs 0) (head_back _ _ s.head));
        count = ap (λ k. k + (runs (suc n)).count) s.count;
      })

  pub all_taken : (n : ℕ) → n < m → join_number (joined_to runs n) (runs (suc n)) ≡ 0
  all_taken n h = next_taken n (joined_to runs n) h (several n (omega arith))
