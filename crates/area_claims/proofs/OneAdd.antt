-- An add to one of sixteen areas in order: its number, and when it is taken. Assumes nothing.
use mathlib.Core.Path.{◌≡◌, refl, ap, sym, ◌∙◌}
use mathlib.Core.Bool.{Bool, true, false, not, cond, ◌&&◌}
use mathlib.Core.Logic.{⊎_elim}
use mathlib.Core.List.{List}
use Prim.Native.Nat.{ℕ, ◌-◌, ◌≤◌, ◌<◌}
use native.Mathlib.Omega.{arith}
use lib.Dec.{eqb, leb, ltb}
use borrow.Author.Tests.{lt-ltb, le-ltb, lt-leb, leb-false, ltb-false, not-true}
use Rattle.units.proofs.Sums.{le_or_lt, sum_alike, term_most}
use Rattle.units.proofs.Tests.{and_left, and_right, never}
use Rattle.inventory.specs.declared.Record.{Record}
use Rattle.accuracy.specs.Reference.{acceptable, accepts}
use Rattle.accuracy.proofs.Conditions.{record_else_lem}
use Rattle.areas.specs.Areas.{counts_of, beyond_own, common_use, area_full, area_grounds}
use Rattle.areas.specs.Numbers.{areas_of}
use Rattle.areas.specs.Calls.{numbers_in_order, add_area_number, area_run_number}
use Rattle.areas.proofs.Order.{areas_ok, common_is}
use Rattle.areas.proofs.Adding.{area_turn, area_taken, add_no_area, add_in_turn, run_no_area, run_given}
use Rattle.area_claims.specs.Conditions.{no_area, common_records, full_area, area_record_number}
use Rattle.area_claims.specs.References.{AreaAdd, accepts_in}

-- ---- on numbers in order

module _ (numbers : List ℕ) (o : numbers_in_order numbers ≡ true) where
  -- the common use is told from the counts
  full_is : (area : ℕ) → area_full (counts_of (areas_of numbers) area) (areas_of numbers).common ≡ full_area (counts_of (areas_of numbers)) area
  unfolding full_area common_records common_use
  full_is area = ap (λ n. area_full (counts_of (areas_of numbers) area) n) (common_is (areas_of numbers) (areas_ok numbers o))

  pub asks_number : (area : ℕ) → area_run_number numbers area ≡ cond (no_area area) 17 0
  unfolding no_area
  asks_number area =
      ⊎_elim (λ (l : area ≤ 15). sym (run_given numbers area o l).0 ∙ rw (le-ltb 15 area l))
      (λ (l : 15 < area). sym (run_no_area numbers area o l).0 ∙ rw (lt-ltb 15 area l)) (le_or_lt area 15)

  module _ (area : ℕ) (rec : Record) where
    within_number : area ≤ 15 → add_area_number numbers area rec ≡ area_record_number (counts_of (areas_of numbers)) area rec
    unfolding area_grounds area_record_number no_area
    within_number l =
        sym (add_in_turn numbers area rec o l)
        ∙ record_else_lem rec 18 (area_full (counts_of (areas_of numbers) area) (areas_of numbers).common)
        ∙ rw (le-ltb 15 area l, full_is area)

    above_number : 15 < area → add_area_number numbers area rec ≡ area_record_number (counts_of (areas_of numbers)) area rec
    unfolding area_record_number no_area
    above_number l = sym (add_no_area numbers area rec o l) ∙ rw (lt-ltb 15 area l)

    pub add_number_lem : add_area_number numbers area rec ≡ area_record_number (counts_of (areas_of numbers)) area rec
    add_number_lem = ⊎_elim (λ (l : area ≤ 15). within_number l) (λ (l : 15 < area). above_number l) (le_or_lt area 15)

    -- an area below 300 takes every acceptable record
    pub below_own : area < 16 → counts_of (areas_of numbers) area < 300 → acceptable rec ≡ true → add_area_number numbers area rec ≡ 0
    unfolding acceptable
    below_own l few own =
        sym (add_in_turn numbers area rec o (omega arith))
        ∙ area_turn (counts_of (areas_of numbers) area) (areas_of numbers).common rec
        ∙ rw (own, lt-leb 300 (counts_of (areas_of numbers) area) few)

  module _ (add : AreaAdd) where
    within_takes : add.area ≤ 15 → eqb (add_area_number numbers add.area add.rec) 0 ≡ accepts_in (counts_of (areas_of numbers)) add
    unfolding accepts_in no_area accepts acceptable
    within_takes l =
        ap (λ n. eqb n 0) (sym (add_in_turn numbers add.area add.rec o l))
        ∙ area_taken (counts_of (areas_of numbers) add.area) (areas_of numbers).common add.rec
        ∙ rw (le-ltb 15 add.area l, full_is add.area)

    above_takes : 15 < add.area → eqb (add_area_number numbers add.area add.rec) 0 ≡ accepts_in (counts_of (areas_of numbers)) add
    unfolding accepts_in no_area
    above_takes l = ap (λ n. eqb n 0) (sym (add_no_area numbers add.area add.rec o l)) ∙ rw (lt-ltb 15 add.area l)

    -- the add takes exactly what the counts accept
    pub takes_in : eqb (add_area_number numbers add.area add.rec) 0 ≡ accepts_in (counts_of (areas_of numbers)) add
    takes_in = ⊎_elim (λ (l : add.area ≤ 15). within_takes l) (λ (l : 15 < add.area). above_takes l) (le_or_lt add.area 15)

-- ---- what an accepted add has

module _ (counts : ℕ → ℕ) (add : AreaAdd) (t : accepts_in counts add ≡ true) where
  pub accepts_low : add.area < 16
  unfolding accepts_in no_area
  accepts_low =
      let z = not-true (ltb 15 add.area) (and_left (not (ltb 15 add.area)) (accepts (not (full_area counts add.area)) add.rec) t) in
      omega (arith, ltb-false 15 add.area z)

  both : accepts (not (full_area counts add.area)) add.rec ≡ true
  unfolding accepts_in
  both = and_right (not (no_area add.area)) (accepts (not (full_area counts add.area)) add.rec) t

  pub accepts_own : acceptable add.rec ≡ true
  unfolding accepts
  accepts_own = and_left (acceptable add.rec) (not (full_area counts add.area)) both

  room : full_area counts add.area ≡ false
  unfolding accepts
  room = not-true (full_area counts add.area) (and_right (acceptable add.rec) (not (full_area counts add.area)) both)

  free_by : (p q : Bool) → leb 300 (counts add.area) ≡ p → leb 200 (common_use counts) ≡ q → (p && q) ≡ false → 300 ≤ counts add.area → common_use counts < 200
  free_by true true e g h l = absurd (never h)
  free_by true false e g h l = leb-false 200 (common_use counts) g
  free_by false q e g h l = let y : counts add.area < 300 = leb-false 300 (counts add.area) e in absurd (omega arith)

  -- with 300 or more there is room among the common 200
  pub accepts_free : 300 ≤ counts add.area → common_use counts < 200
  unfolding full_area common_records common_use
  accepts_free = free_by _ _ refl refl room

  pub accepts_few : counts add.area < 500
  unfolding common_use
  accepts_few =
      ⊎_elim (λ (l : 300 ≤ counts add.area). omega (arith, term_most (beyond_own counts) 16 add.area accepts_low, accepts_free l))
      (λ (l : counts add.area < 300). omega arith) (le_or_lt 300 (counts add.area))

-- ---- the counts of the sixteen areas alone decide

module _ (f g : ℕ → ℕ) (h : (j : ℕ) → j < 16 → f j ≡ g j) where
  room_alike : (area : ℕ) → area ≤ 15 → full_area f area ≡ full_area g area
  unfolding full_area common_records
  room_alike area l = rw (h area (omega arith), sum_alike (λ i. f i - 300) (λ i. g i - 300) 16 (λ j b. ap (λ n. n - 300) (h j b)))

  pub accepts_alike : (add : AreaAdd) → accepts_in f add ≡ accepts_in g add
  unfolding accepts_in no_area
  accepts_alike add =
      ⊎_elim (λ (l : add.area ≤ 15). rw (room_alike add.area l)) (λ (l : 15 < add.area). rw (lt-ltb 15 add.area l)) (le_or_lt add.area 15)

  pub number_alike : (area : ℕ) (rec : Record) → area_record_number f area rec ≡ area_record_number g area rec
  unfolding area_record_number no_area
  number_alike area rec = ⊎_elim (λ (l : area ≤ 15). rw (room_alike area l)) (λ (l : 15 < area). rw (lt-ltb 15 area l)) (le_or_lt area 15)
