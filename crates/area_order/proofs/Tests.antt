-- Laws of the order of areas among numbers: what each test says of it. Assumes nothing.
use mathlib.Core.Path.{◌≡◌, refl, sym, ◌∙◌}
use mathlib.Core.Bool.{Bool, true, false, not, ◌&&◌}
use mathlib.Core.List.{List}
use Prim.Native.Nat.{ℕ, ◌+◌, ◌*◌, ◌-◌, ◌≤◌, ◌<◌}
use native.Mathlib.Numerals.{add-one}
use native.Mathlib.Omega.{arith}
use lib.ListN.{length, get_or}
use lib.Dec.{leb, eqb}
use borrow.Author.Tests.{eq-eqb, ne_eqb}
use Rattle.units.specs.Lists.{all_below, sum_to}
use Rattle.units.specs.Grounds.{outside}
use Rattle.units.proofs.Tests.{all, at, fails, and_left, and_right}
use Rattle.classes.specs.Classes.{x_count}
use Rattle.inventory.specs.declared.Run.{Run}
use Rattle.inventory.specs.Order.{x_ok, sums_ok, km_ok, in_order, same_head, record_limit}
use Rattle.inventory.proofs.Heads.{trip_same, x_same}
use Rattle.inventory.proofs.Order.{count_of}
use Rattle.order.proofs.Parts.{good_head, bad_head}
use Rattle.areas.specs.Areas.{area_ok, areas_in_order, common_use, counts_of, beyond_own}
use Rattle.areas.specs.Numbers.{run_at, areas_of}
use Rattle.areas.specs.Calls.{numbers_in_order}

-- ---- a run with the head of one whose L and X are in range

module _ (first run : Run) where
  module _ (head : (not (outside 10 200 first.trip) && all_below (x_ok first) x_count) ≡ true) (same : true ≡ same_head first run) where
    its_head : true ≡ (not (outside 10 200 run.trip) && all_below (x_ok run) x_count)
    its_head =
        let s = sym same in
        let t = and_left (not (outside 10 200 first.trip)) (all_below (x_ok first) x_count) head in
        let x = and_right (not (outside 10 200 first.trip)) (all_below (x_ok first) x_count) head in
        let e = trip_same first run s in
        let each : all_below (x_ok run) x_count ≡ true =
        all (x_ok run) x_count
        (λ i h. let e = x_same first run s i h in let y : leb (get_or first.x i 0) 4900000000 ≡ true = at (x_ok first) x_count x i h in rw e at y) in
        let q = rw e at t in
        rw (q, each)

    pub by_amounts : (leb run.count record_limit && sums_ok run && all_below (km_ok run) 3) ≡ (in_order run && same_head first run)
    by_amounts = rw (← same, good_head run its_head) (sym (and_true (in_order run)))
      where
        and_true : (b : Bool) → (b && true) ≡ b
        and_true true = refl
        and_true false = refl

-- ---- the numbers as a whole

module _ (numbers : List ℕ) where
  pub bad_length : (length numbers ≡ 2737 → ⊥) → false ≡ numbers_in_order numbers
  unfolding numbers_in_order
  bad_length h = rw (ne_eqb (length numbers) 2737 h)

  pub area_is : (i : ℕ) → area_ok (areas_of numbers) i ≡ (in_order (run_at numbers (i * 171)) && same_head (run_at numbers 0) (run_at numbers (i * 171)))
  unfolding areas_of
  area_is i = refl

  module _ (size : length numbers ≡ 2737) where
    pub bad_area : (i : ℕ) → i < 16 → area_ok (areas_of numbers) i ≡ false → false ≡ numbers_in_order numbers
    unfolding numbers_in_order areas_in_order
    bad_area i h e = rw (eq-eqb (length numbers) 2737 size, fails (area_ok (areas_of numbers)) 16 i h e)

    pub first_bad : false ≡ (not (outside 10 200 (run_at numbers 0).trip) && all_below (x_ok (run_at numbers 0)) x_count) → false ≡ numbers_in_order numbers
    first_bad e = bad_area 0 (omega arith) (area_is 0 ∙ rw (← bad_head (run_at numbers 0) e))

    -- every area is in order and `common` is their records beyond 300: the last number decides
    module _ (common : ℕ) (a : all_below (area_ok (areas_of numbers)) 16 ≡ true) (e : common ≡ sum_to (beyond_own (counts_of (areas_of numbers))) 16) where
      pub last_common : get_or numbers 2736 0 ≡ common → leb common 200 ≡ numbers_in_order numbers
      unfolding numbers_in_order areas_in_order common_use areas_of
      last_common h = rw (eq-eqb (length numbers) 2737 size, a, ← e, h, eq-eqb common common refl)

      pub bad_common : (get_or numbers 2736 0 ≡ common → ⊥) → eqb (get_or numbers 2736 0) common ≡ numbers_in_order numbers
      unfolding numbers_in_order areas_in_order common_use areas_of
      bad_common h = rw (eq-eqb (length numbers) 2737 size, a, ← e, ne_eqb (get_or numbers 2736 0) common h)

  -- one area more
  pub sum_more : (i common more count : ℕ) → common ≡ sum_to (beyond_own (counts_of (areas_of numbers))) i → more ≡ count - 300 → count ≡ (run_at numbers (i * 171)).count
      → common + more ≡ sum_to (beyond_own (counts_of (areas_of numbers))) (i + 1)
  unfolding sum_to areas_of
  sum_more i common more count e h c = rw (add-one, ← e, h, c)

  pub count_few : (i : ℕ) → area_ok (areas_of numbers) i ≡ true → (run_at numbers (i * 171)).count ≤ 5000
  count_few i h =
      let o = and_left (in_order (run_at numbers (i * 171))) (same_head (run_at numbers 0) (run_at numbers (i * 171))) (sym (area_is i) ∙ h) in
      count_of (run_at numbers (i * 171)) o
