-- Laws of numbers of which a part is written anew, and of a run's parts written one behind the other.
-- Assumes nothing.
use mathlib.Core.Path.{◌≡◌, refl, ap, sym, ◌∙◌}
use mathlib.Core.Logic.{⊎_elim}
use mathlib.Core.List.{List, ◌++◌}
use Prim.Native.Nat.{ℕ, ◌+◌, ◌-◌, ◌≤◌, ◌<◌}
use native.Mathlib.Omega.{arith}
use borrow.Rule.Slice.PartMut.{put_mid, mid_of, post_of, same_len_mid}
use lib.ListN.{length, set, take, drop, get_or, get_or-append, length-drop}
use lib.Seq.{get_or-take, get_or-drop}
use Rattle.std.proofs.Common.{length-take-le}
use Rattle.std.proofs.lemmas.List.{get_or-append_right}
use Rattle.units.specs.Lists.{tab}
use Rattle.units.proofs.Tab.{tab_at, tab_length}
use Rattle.units.proofs.Sums.{le_or_lt}
use Rattle.units.proofs.Between.{Between, between_none, between_more, between}
use Rattle.inventory.specs.declared.Run.{Run}
use Rattle.inventory.specs.Order.{rest_in, km_in, grams_in, total_grams_in, total_rest_in}
use Rattle.areas.specs.Numbers.{run_number}
use Rattle.areas.proofs.Numbers.{number_trip, number_x, number_count, number_km, number_grams, number_rest, number_total-grams, number_total_rest}

-- ---- a part of a list written anew

pub mid_long : (a m : ℕ) (l : List ℕ) → a + m ≤ length l → length (mid_of a m l) ≡ m
mid_long a m l h = length-take-le m (drop a l) (omega (arith, length-drop a l))

module _ (a m : ℕ) (l ys : List ℕ) (e : length ys ≡ m) (h : a + m ≤ length l) where
  front : length (take a l) ≡ a
  front = length-take-le a l (omega arith)

  pub put_length : length (put_mid a m l ys) ≡ length l
  put_length = same_len_mid a m l ys (e ∙ sym (mid_long a m l h))

  pub put_before : (j : ℕ) → j < a → get_or (put_mid a m l ys) j 0 ≡ get_or l j 0
  put_before j b = get_or-append (take a l) (ys ++ post_of a m l) 0 j (omega (arith, front)) ∙ get_or-take a l j 0 b

  behind : (j i : ℕ) → j ≡ a + i → get_or (put_mid a m l ys) j 0 ≡ get_or (ys ++ post_of a m l) i 0
  behind j i z =
      let q : j - a ≡ i = omega arith in get_or-append_right (take a l) (ys ++ post_of a m l) a j 0 front (omega arith) ∙ ap (λ k. get_or (ys ++ post_of a m l) k 0) q

  pub put_in : (j i : ℕ) → j ≡ a + i → i < m → get_or (put_mid a m l ys) j 0 ≡ get_or ys i 0
  put_in j i z b = behind j i z ∙ get_or-append ys (post_of a m l) 0 i (omega arith)

  pub put_behind : (j : ℕ) → a + m ≤ j → get_or (put_mid a m l ys) j 0 ≡ get_or l j 0
  put_behind j b =
      let q : a + (m + (j - a - m)) ≡ j = omega arith in
      behind j (j - a) (omega arith) ∙ get_or-append_right ys (post_of a m l) m (j - a) 0 e (omega arith) ∙ get_or-drop m (drop a l) (j - a - m) 0
      ∙ get_or-drop a l (m + (j - a - m)) 0 ∙ ap (λ k. get_or l k 0) q

  pub put_kept : (j : ℕ) → (a ≤ j → j < a + m → ⊥) → get_or (put_mid a m l ys) j 0 ≡ get_or l j 0
  put_kept j k = ⊎_elim (λ (q : a ≤ j). put_behind j (by_kept j k q)) (put_before j) (le_or_lt a j)
    where
      by_kept : (j : ℕ) → (a ≤ j → j < a + m → ⊥) → a ≤ j → a + m ≤ j
      by_kept j k q = ⊎_elim (λ (z : a + m ≤ j). z) (λ (z : j < a + m). absurd (k q z)) (le_or_lt (a + m) j)

-- one part more; m is the code's word for its length
module _ {F : ℕ → ℕ} {l₀ : List ℕ} {n lo hi : ℕ} {l : List ℕ} (ys : List ℕ) (m : ℕ) (p : Between 0 F l₀ n lo hi l) (a : lo ≤ hi) (h : hi + m ≤ n)
    (s : length ys ≡ m) (e : (i : ℕ) → i < m → get_or ys i 0 ≡ F (hi + i)) where
  part_new : (j : ℕ) → lo ≤ j → j < hi + m → get_or (put_mid hi m l ys) j 0 ≡ F j
  part_new j b d =
      ⊎_elim
      (λ (q : hi ≤ j).
      let z : hi + (j - hi) ≡ j = omega arith in
      put_in hi m l ys s (rw p.size h) j (j - hi) (omega arith) (omega arith) ∙ e (j - hi) (omega arith) ∙ ap F z)
      (λ (q : j < hi). put_before hi m l ys s (rw p.size h) j q ∙ p.new j b q) (le_or_lt hi j)

  pub between_part : (k : ℕ) → k ≡ hi + m → Between 0 F l₀ n lo k (put_mid hi m l ys)
  between_part k q =
      rw q
      (record {
        size = put_length hi m l ys s (rw p.size h) ∙ p.size;
        new = part_new;
        below = λ j b. put_before hi m l ys s (rw p.size h) j (omega arith) ∙ p.below j b;
        above = λ j b. put_behind hi m l ys s (rw p.size h) j b ∙ p.above j (omega arith);
      })

-- a run's parts, written one behind the other, are the run
module _ (l : List ℕ) (run : Run) (xs kms grams rests totals total_rests : List ℕ) (h : length l ≡ 171) where
  abbrev to_count : List ℕ
  to_count = set (put_mid 1 16 (set l 0 run.trip) xs) 17 run.count

  abbrev to_rests : List ℕ
  to_rests = put_mid 81 60 (put_mid 21 60 (put_mid 18 3 to_count kms) grams) rests

  pub run_put : xs ≡ tab (λ i. get_or run.x i 0) (length (mid_of 1 16 (set l 0 run.trip))) → kms ≡ tab (km_in run) (length (mid_of 18 3 to_count))
      → grams ≡ tab (grams_in run) (length (mid_of 21 60 (put_mid 18 3 to_count kms))) → rests ≡ tab (rest_in run) (length (mid_of 81 60 (put_mid 21 60 (put_mid 18 3 to_count kms) grams)))
      → totals ≡ tab (total_grams_in run) (length (mid_of 141 15 to_rests)) → total_rests ≡ tab (total_rest_in run) (length (mid_of 156 15 (put_mid 141 15 to_rests totals)))
      → put_mid 156 15 (put_mid 141 15 to_rests totals) total_rests ≡ tab (run_number run) 171
  run_put x k g r t u =
      let one = between_more 0 1 run.trip (between_none 0 (run_number run) l 171 0 0 h refl) refl refl (omega arith) (omega arith) (sym (number_trip run 0 refl)) in
      let x = rw (mid_long 1 16 (set l 0 run.trip) (rw one.size (omega arith))) at x in
      let two = between_part xs 16 one (omega arith) (omega arith) (rw x (tab_length (λ i. get_or run.x i 0) 16)) (λ i b. rw x (tab_at 0 (λ i. get_or run.x i 0) 16 i b) ∙ sym (number_x run (1 + i) i (omega arith) b)) 17 refl in
      let three = between_more 17 18 run.count two refl refl (omega arith) (omega arith) (sym (number_count run 17 refl)) in
      let k = rw (mid_long 18 3 to_count (rw three.size (omega arith))) at k in
      let four = between_part kms 3 three (omega arith) (omega arith) (rw k (tab_length (km_in run) 3)) (λ i b. rw k (tab_at 0 (km_in run) 3 i b) ∙ sym (number_km run (18 + i) i (omega arith) b)) 21 refl in
      let g = rw (mid_long 21 60 (put_mid 18 3 to_count kms) (rw four.size (omega arith))) at g in
      let five = between_part grams 60 four (omega arith) (omega arith) (rw g (tab_length (grams_in run) 60)) (λ i b. rw g (tab_at 0 (grams_in run) 60 i b) ∙ sym (number_grams run (21 + i) i (omega arith) b)) 81 refl in
      let r = rw (mid_long 81 60 (put_mid 21 60 (put_mid 18 3 to_count kms) grams) (rw five.size (omega arith))) at r in
      let six = between_part rests 60 five (omega arith) (omega arith) (rw r (tab_length (rest_in run) 60)) (λ i b. rw r (tab_at 0 (rest_in run) 60 i b) ∙ sym (number_rest run (81 + i) i (omega arith) b)) 141 refl in
      let t = rw (mid_long 141 15 to_rests (rw six.size (omega arith))) at t in
      let seven = between_part totals 15 six (omega arith) (omega arith) (rw t (tab_length (total_grams_in run) 15)) (λ i b. rw t (tab_at 0 (total_grams_in run) 15 i b) ∙ sym (number_total-grams run (141 + i) i (omega arith) b)) 156 refl in
      let u = rw (mid_long 156 15 (put_mid 141 15 to_rests totals) (rw seven.size (omega arith))) at u in
      let eight = between_part total_rests 15 seven (omega arith) (omega arith) (rw u (tab_length (total_rest_in run) 15)) (λ i b. rw u (tab_at 0 (total_rest_in run) 15 i b) ∙ sym (number_total_rest run (156 + i) i (omega arith))) 171 refl in
      between eight (λ j b d. absurd (d (omega arith) b))
