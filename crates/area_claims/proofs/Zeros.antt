-- A refused head leaves nothing but zeros. Assumes nothing.
use mathlib.Core.Path.{◌≡◌, refl, ap, ◌∙◌}
use mathlib.Core.Bool.{Bool, true, false, cond}
use mathlib.Core.Logic.{⊎_elim}
use mathlib.Core.List.{List}
use Prim.Native.Nat.{ℕ, ◌-◌, ◌%◌, ◌≤◌, ◌<◌}
use lib.Dec.{ltb}
use lib.ListN.{length, get_or, get_or-eq_default}
use borrow.Author.Tests.{eq-eqb, ne_eqb}
use Rattle.units.specs.Lists.{tab}
use Rattle.units.specs.Grounds.{first_fit}
use Rattle.units.proofs.Sums.{le_or_lt}
use Rattle.units.proofs.Tab.{tab_at, tab_length, tab_alike}
use Rattle.inventory.specs.declared.Head.{Head}
use Rattle.inventory.specs.Opening.{no_km, no_grams, no_rest, empty_run, zero_run, open_number, open_run}
use Rattle.areas.specs.Areas.{opened_areas}
use Rattle.areas.specs.Numbers.{run_number, areas_number, numbers_of}
use Rattle.areas.specs.Calls.{open_areas_number, open_areas_numbers}

-- what stands in a list of one value, and beyond its end
same_at : {A : Type 0} (d : A) (f : ℕ → A) (n i : ℕ) → ((k : ℕ) → f k ≡ d) → get_or (tab f n) i d ≡ d
same_at d f n i e =
    ⊎_elim (λ (l : n ≤ i). get_or-eq_default (tab f n) d (rw (tab_length f n) l)) (λ (l : i < n). tab_at d f n i l ∙ e i) (le_or_lt n i)

both : (b : Bool) (x y : ℕ) → x ≡ 0 → y ≡ 0 → cond b x y ≡ 0
both true x y p q = p
both false x y p q = q

number_none : (k : ℕ) → run_number zero_run k ≡ 0
unfolding run_number zero_run empty_run
number_none k =
    both (ltb k 1) _ _ refl
    (both (ltb k 17) _ _ (same_at 0 no_rest 16 (k - 1) (λ j. refl))
    (both (ltb k 18) _ _ refl
    (both (ltb k 21) _ _ (ap (λ v. v.0) (same_at (record { 0 = 0 }) no_km 3 (k - 18) (λ j. refl)))
    (both (ltb k 81) _ _ (ap (λ v. v.0) (same_at (record { 0 = 0 }) no_grams 60 (k - 21) (λ j. refl)))
    (both (ltb k 141) _ _ (same_at 0 no_rest 60 (k - 81) (λ j. refl))
    (both (ltb k 156) _ _ (ap (λ v. v.0) (same_at (record { 0 = 0 }) no_grams 15 (k - 141) (λ j. refl))) (same_at 0 no_rest 15 (k - 156) (λ j. refl))))))))

module _ (numbers : List ℕ) (head : Head) (size : length numbers ≡ 2737) where
  -- a head that is refused
  head_refused : (open_areas_number numbers head ≡ 0 → ⊥) → open_number head ≡ 0 → ⊥
  unfolding open_areas_number open_number first_fit
  head_refused h z = h (rw (eq-eqb (length numbers) 2737 size) z)

  number_at : (open_number head ≡ 0 → ⊥) → (j : ℕ) → areas_number (opened_areas head) j ≡ 0
  unfolding areas_number opened_areas open_run
  number_at h j = rw (ne_eqb (open_number head) 0 h) (both (ltb j 2736) _ _ (number_none (j % 171)) refl)

  pub zeros_left : (open_areas_number numbers head ≡ 0 → ⊥) → open_areas_numbers numbers head ≡ tab (λ j. 0) 2737
  unfolding open_areas_numbers numbers_of
  zeros_left h = rw (eq-eqb (length numbers) 2737 size) (tab_alike (areas_number (opened_areas head)) (λ j. 0) 2737 (λ j l. number_at (head_refused h) j))
