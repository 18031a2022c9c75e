-- Laws of the order of areas: what areas in order have, and what makes them so. Assumes nothing.
use mathlib.Core.Path.{◌≡◌, ap}
use mathlib.Core.Bool.{true, ◌&&◌}
use mathlib.Core.List.{List}
use Prim.Native.Nat.{ℕ, ◌-◌, ◌≤◌, ◌<◌}
use native.Mathlib.Omega.{arith}
use lib.Dec.{leb, eqb}
use lib.ListN.{length}
use borrow.Author.Tests.{le-leb, eq-eqb, eqb-true, leb-true}
use Rattle.units.specs.Lists.{all_below, sum_to}
use Rattle.units.proofs.Sums.{all_alike, sum_alike, sum_beyond, term_most}
use Rattle.units.proofs.Tests.{all, at, and_left, and_right}
use Rattle.inventory.specs.Limits.{Shaped}
use Rattle.inventory.specs.Order.{in_order, same_head}
use Rattle.areas.specs.Areas.{Areas, area_count, common_limit, counts_of, beyond_own, common_use, area_ok, areas_in_order}
use Rattle.areas.specs.Numbers.{areas_size, areas_of, numbers_of}
use Rattle.areas.specs.Calls.{size_ok, numbers_in_order}
use Rattle.areas.proofs.Numbers.{run_back, common_back, size_of}

-- ---- what areas in order have

module _ (a : Areas) (o : areas_in_order a ≡ true) where
  front : (all_below (area_ok a) area_count && eqb a.common (common_use (counts_of a))) ≡ true
  unfolding areas_in_order
  front = and_left (all_below (area_ok a) area_count && eqb a.common (common_use (counts_of a))) (leb a.common common_limit) o

  each_ok : (i : ℕ) → i < area_count → area_ok a i ≡ true
  each_ok i h = at (area_ok a) area_count (and_left (all_below (area_ok a) area_count) (eqb a.common (common_use (counts_of a))) front) i h

  pub run_ok : (i : ℕ) → i < area_count → in_order (a.runs i) ≡ true
  run_ok i h = and_left (in_order (a.runs i)) (same_head (a.runs 0) (a.runs i)) (each_ok i h)

  pub head_ok : (i : ℕ) → i < area_count → same_head (a.runs 0) (a.runs i) ≡ true
  head_ok i h = and_right (in_order (a.runs i)) (same_head (a.runs 0) (a.runs i)) (each_ok i h)

  pub common_is : a.common ≡ common_use (counts_of a)
  common_is = eqb-true _ _ (and_right (all_below (area_ok a) area_count) (eqb a.common (common_use (counts_of a))) front)

  pub common_most : a.common ≤ common_limit
  unfolding areas_in_order
  common_most = leb-true _ _ (and_right (all_below (area_ok a) area_count && eqb a.common (common_use (counts_of a))) (leb a.common common_limit) o)

  -- an area has at most its own 300 and the common 200
  pub count_most : (i : ℕ) → i < area_count → counts_of a i ≤ 500
  unfolding common_use
  count_most i h = omega (arith, term_most (beyond_own (counts_of a)) area_count i h, common_is, common_most)

  -- sixteen times 300, and the common 200
  pub records_most : sum_to (counts_of a) area_count ≤ 5000
  unfolding common_use
  records_most = omega (arith, sum_beyond (counts_of a) 300 area_count, common_is, common_most)

-- the way back
pub order_areas : (a : Areas) → ((i : ℕ) → i < area_count → area_ok a i ≡ true) → a.common ≡ common_use (counts_of a) → a.common ≤ common_limit → areas_in_order a ≡ true
unfolding areas_in_order
order_areas a e p q = rw (all (area_ok a) area_count e, eq-eqb a.common (common_use (counts_of a)) p, le-leb a.common common_limit q)

-- areas that are alike in the sixteen runs and the common use
order_alike : (a b : Areas) → ((i : ℕ) → i < area_count → a.runs i ≡ b.runs i) → a.common ≡ b.common → areas_in_order a ≡ areas_in_order b
unfolding areas_in_order common_use
order_alike a b e p =
    rw (
      p,
      all_alike (area_ok a) (area_ok b) area_count (λ j h. rw (e j h, e 0 (omega arith))),
      sum_alike (beyond_own (counts_of a)) (beyond_own (counts_of b)) area_count (λ j h. ap (λ r. r.count - 300) (e j h)),
    )

-- ---- numbers in order

module _ (numbers : List ℕ) (o : numbers_in_order numbers ≡ true) where
  pub size_is : length numbers ≡ areas_size
  unfolding numbers_in_order
  size_is = eqb-true _ _ (and_left (size_ok numbers) (areas_in_order (areas_of numbers)) o)

  pub areas_ok : areas_in_order (areas_of numbers) ≡ true
  unfolding numbers_in_order
  areas_ok = and_right (size_ok numbers) (areas_in_order (areas_of numbers)) o

-- the numbers of areas are in order where the areas are
pub numbers_order : (a : Areas) → ((i : ℕ) → i < area_count → Shaped (a.runs i)) → numbers_in_order (numbers_of a) ≡ areas_in_order a
unfolding numbers_in_order
numbers_order a s =
    rw (
      eq-eqb (length (numbers_of a)) areas_size (size_of a),
      order_alike (areas_of (numbers_of a)) a (λ i h. run_back a i h (s i h)) (common_back a),
    )
