-- A long division by digits: one digit more, where it ends, and filling up with noughts. Assumes nothing.
use mathlib.Core.Path.{◌≡◌, sym, ap, ◌∙◌}
use mathlib.Core.Bool.{true, false}
use mathlib.Core.Logic.{⊎_elim}
use Prim.Native.Nat.{ℕ, suc, ◌+◌, ◌*◌, ◌-◌, ◌/◌, ◌%◌, ◌^◌, ◌≤◌, ◌<◌}
use native.Mathlib.Nat.{mul_assoc, add-mul, mul_right_comm, mul-le-mul_left, le-mul_of_pos_right, div-mul-le_self, pow-suc, pow-succ', pow-le-pow_right, one-le-pow, div-lt_iff_lt-mul, div-eq_of_lt, div-add-mod', mul-add-div_right, mul-add-mod_self_right, mod-eq_of_lt, mod-eq-sub-div-mul, mod-lt, eq-or-lt_of_le, zero-mul, mul-one}
use native.Mathlib.Numerals.{add-one}
use native.Mathlib.Omega.{arith}
use lib.Pow.{pow-add}
use borrow.Author.Tests.{eq-eqb, ne_eqb, eqb-true, lt-leb}
use Rattle.units.specs.Rounding.{half_up, nearest}
use Rattle.units.proofs.Rounds.{half_up-nearest}
use Rattle.long_division.specs.declared.Division.{Division}
use Rattle.long_division.specs.declared.Ratio.{Ratio}
use Rattle.long_division.specs.Digits.{multiple_at, digits_worked, division_of, ratio_of, SmallRatio}
use Rattle.long_division.proofs.Least.{worked, worked_only}

-- ---- noughts

nought_more : (s n : ℕ) → s * 10 ^ (n + 1) ≡ s * 10 ^ n * 10
nought_more s n = ap (λ (m : ℕ). s * 10 ^ m) (add-one n) ∙ ap (λ (x : ℕ). s * x) (pow-suc 10 n) ∙ sym (mul_assoc s (10 ^ n) 10)

-- those up to twelve, behind the n that are there
noughts_left : (s n : ℕ) → n ≤ 12 → s * 1000000000000 ≡ s * 10 ^ n * 10 ^ (12 - n)
noughts_left s n h =
    let e : n + (12 - n) ≡ 12 = omega arith in
    sym (mul_assoc s (10 ^ n) (10 ^ (12 - n)) ∙ ap (λ (x : ℕ). s * x) (sym (pow-add 10 n (12 - n)) ∙ ap (λ (m : ℕ). 10 ^ m) e))

-- one of them moved to the number
pub fill_more : (k n : ℕ) → n < 12 → k * 10 * 10 ^ (12 - (n + 1)) ≡ k * 10 ^ (12 - n)
fill_more k n h =
    let e : suc (12 - (n + 1)) ≡ 12 - n = omega arith in
    mul_assoc k 10 (10 ^ (12 - (n + 1))) ∙ ap (λ (x : ℕ). k * x) (sym (pow-succ' 10 (12 - (n + 1))) ∙ ap (λ (m : ℕ). 10 ^ m) e)

pub fill_least : (k n : ℕ) → k ≤ k * 10 ^ n
fill_least k n = le-mul_of_pos_right k (one-le-pow n 10 (omega arith))

-- ---- quotient and remainder

module _ (x q r f : ℕ) (e : x ≡ q * f + r) (h : r < f) where
  quotient_is : q ≡ x / f
  quotient_is = let p : 0 < f = omega arith in sym (ap (λ (y : ℕ). y / f) e ∙ mul-add-div_right p q r ∙ omega (arith, div-eq_of_lt h))

  remainder_is : r ≡ x % f
  remainder_is = sym (ap (λ (y : ℕ). y % f) e ∙ mul-add-mod_self_right q f r ∙ mod-eq_of_lt h)

-- what is left of t when f was taken out as often as it goes in
module _ (t d f : ℕ) (e : d ≡ t / f) where
  pub taken_most : d * f ≤ t
  taken_most = rw e (div-mul-le_self t f)

  left_is : t - d * f ≡ t % f
  left_is = ap (λ (x : ℕ). t - x * f) e ∙ sym (mod-eq-sub-div-mul t f)

  pub left_below : 0 < f → t - d * f < f
  left_below p = omega (arith, left_is, mod-lt t p)

  pub whole_and_left : t ≡ d * f + (t - d * f)
  whole_and_left = omega (arith, taken_most)

-- one digit more
pub digit_more : (s f n q r d : ℕ) → s * 10 ^ n ≡ q * f + r → d ≡ r * 10 / f → s * 10 ^ (n + 1) ≡ (q * 10 + d) * f + (r * 10 - d * f)
digit_more s f n q r d e i =
    nought_more s n ∙
    omega (arith, e, taken_most (r * 10) d f i, add-mul (q * 10) d f, mul_right_comm q 10 f)

pub digit_below : (r f d : ℕ) → r < f → d ≡ r * 10 / f → d < 10
digit_below r f d h e = let p : 0 < f = omega arith in let l : r * 10 < 10 * f = omega arith in omega (arith, e, (div-lt_iff_lt-mul {k = f} {x = r * 10} {y = 10} p).1 l)

-- every quotient stays small
pub quotient_most : (s f n q r : ℕ) → SmallRatio s f → n ≤ 12 → s * 10 ^ n ≡ q * f + r → r < f → q ≤ 1500001
quotient_most s f n q r small h e l =
    let p = small.divisor in
    let c = small.small in
    let m : s * 10 ^ n ≤ s * 10 ^ 12 = mul-le-mul_left s (pow-le-pow_right (omega arith) h) in
    let b : s * 10 ^ n < 1500002 * f = omega arith in
    omega (arith, quotient_is (s * 10 ^ n) q r f e l, (div-lt_iff_lt-mul {k = f} {x = s * 10 ^ n} {y = 1500002} p).1 b)

-- ---- where it ends

module _ (s f : ℕ) where
  abbrev d : ℕ
  d = digits_worked s f

  abbrev q : ℕ
  q = s * 10 ^ d / f

  abbrev r : ℕ
  r = s * 10 ^ d % f

  -- before the twelfth digit it ends only at the remainder 0
  early : d < 12 → r ≡ 0
  early h = eqb-true r 0 ((worked s f).passes (λ x. omega arith))

  -- the remainder is 0, or no nought is left
  ended : r * 10 ^ (12 - d) ≡ r
  ended =
      ⊎_elim (λ (e : d ≡ 12). ap (λ (n : ℕ). r * 10 ^ (12 - n)) e ∙ mul-one r)
      (λ (h : d < 12). ap (λ (x : ℕ). x * 10 ^ (12 - d)) (early h) ∙ zero-mul (10 ^ (12 - d)) ∙ sym (early h))
      (eq-or-lt_of_le (worked s f).most)

  filled_up : s * 1000000000000 ≡ q * 10 ^ (12 - d) * f + r
  filled_up =
      noughts_left s d (worked s f).most ∙
      ap (λ (x : ℕ). x * 10 ^ (12 - d)) (sym (div-add-mod' (s * 10 ^ d) f)) ∙
      add-mul (q * f) r (10 ^ (12 - d)) ∙
      omega (arith, ended, mul_right_comm q f (10 ^ (12 - d)))

  -- with fewer than twelve digits nothing is rounded
  pub nothing_rounded : 0 < f → d < 12 → half_up (s * 1000000000000) f * f ≡ s * 1000000000000
  nothing_rounded p h =
      let e : s * 1000000000000 ≡ q * 10 ^ (12 - d) * f + 0 = filled_up ∙ ap (λ (x : ℕ). q * 10 ^ (12 - d) * f + x) (early h) in
      let k : half_up (s * 1000000000000) f ≡ q * 10 ^ (12 - d) = half_up-nearest (s * 1000000000000) (q * 10 ^ (12 - d)) 0 f e p ∙ rw (lt-leb f 0 p) in
      ap (λ (x : ℕ). x * f) k ∙ omega (arith, e)

module _ (s f : ℕ) (small : SmallRatio s f) where
  remainder_below : r s f < f
  remainder_below = mod-lt (s * 10 ^ d s f) small.divisor

  filled_most : q s f * 10 ^ (12 - d s f) ≤ 1500001
  filled_most = quotient_most s f 12 (q s f * 10 ^ (12 - d s f)) (r s f) small (omega arith) (filled_up s f) remainder_below

  pub fills : (e : Division) → e ≡ division_of s f → (e.digits ≤ 12) × (e.quotient * 10 ^ (12 - e.digits) ≤ 1500001)
  fills e i = rw i ((worked s f).most, filled_most)

  pub remains : (e : Division) → e ≡ division_of s f → e.remainder < f
  remains e i = rw i remainder_below

  pub rounded : (e : Division) (k n : ℕ) → e ≡ division_of s f → k ≡ e.quotient * 10 ^ (12 - e.digits) → n ≡ nearest k e.remainder f
      → ◌≡◌ {A = Ratio} (record { k = n; digits = e.digits }) (ratio_of s f)
  rounded e k n i j l =
      rw (l, j, i) (ap (λ (x : ℕ). record { k = x; digits = d s f })
      (sym (half_up-nearest (s * 1000000000000) (q s f * 10 ^ (12 - d s f)) (r s f) f (filled_up s f) remainder_below)))

-- ---- a division that has come to n digits, q and r

module _ (s f q r n : ℕ) (e : s * 10 ^ n ≡ q * f + r) (below : r < f) (few : n ≤ 12) (none_before : (j : ℕ) → j < n → multiple_at s f j ≡ false) where
  passes_here : r ≡ 0 → multiple_at s f n ≡ true
  passes_here z = eq-eqb (s * 10 ^ n % f) 0 (sym (remainder_is (s * 10 ^ n) q r f e below) ∙ z)

  -- it goes on where the remainder is not 0
  pub none_yet : (r ≡ 0 → ⊥) → (j : ℕ) → j < n + 1 → multiple_at s f j ≡ false
  none_yet some j h =
      ⊎_elim (λ (i : j ≡ n). rw i (ne_eqb (s * 10 ^ n % f) 0 (λ z. some (remainder_is (s * 10 ^ n) q r f e below ∙ z)))) (none_before j)
      (eq-or-lt_of_le (omega arith))

  -- it ends at the remainder 0, or after twelve
  pub ends_here : ((n ≡ 12 → ⊥) → r ≡ 0) → ◌≡◌ {A = Division} (record { quotient = q; remainder = r; digits = n }) (division_of s f)
  ends_here z =
      let d : n ≡ digits_worked s f = worked_only s f n (record { most = few; none_before = none_before; passes = λ u. passes_here (z u) }) in
      rw (← d, ← quotient_is (s * 10 ^ n) q r f e below, ← remainder_is (s * 10 ^ n) q r f e below)
