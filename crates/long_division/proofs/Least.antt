-- The least number that passes: that `least_to` is it, and that no other is. Assumes nothing.
use mathlib.Core.Path.{◌≡◌, refl, sym, ap, ◌∙◌}
use mathlib.Core.Bool.{Bool, true, false, cond}
use mathlib.Core.Logic.{⊎_elim}
use Prim.Native.Nat.{ℕ, zero, suc, ◌*◌, ◌%◌, ◌^◌, ◌≤◌, ◌<◌}
use native.Mathlib.Nat.{eq-or-lt_of_le, dvd_of_mod-eq-zero, mod-eq-zero_of_dvd, not-suc-le-zero}
use native.Mathlib.Omega.{arith}
use lib.Dec.{ltb}
use borrow.Author.Tests.{eq-eqb, ne_eqb, eqb-true, eqb-false, ltb-true, ltb-false}
use Rattle.units.proofs.Tests.{never}
use Rattle.long_division.specs.Digits.{multiple_at, least_to, digits_worked}
use Rattle.long_division.specs.Claim.{LeastDigits, DigitsClaim}

-- m is the least number from 0 to n that passes, or n if there is none
pub record Least (p : ℕ → Bool) (n m : ℕ) : Type 0 where
  pub most : m ≤ n
  pub none_before : (j : ℕ) → j < m → p j ≡ false
  pub passes : (m ≡ n → ⊥) → p m ≡ true

module _ (p : ℕ → Bool) where
  -- from one limit to the next
  next : (b : Bool) (n m : ℕ) → p m ≡ b → Least p n m → Least p (suc n) (cond b m (suc n))
  next true n m e l = record { most = omega (arith, l.most); none_before = l.none_before; passes = λ u. e }
  next false n m e l =
      let none : (j : ℕ) → j < suc n → p j ≡ false = λ j h.
      ⊎_elim (λ (z : m ≡ n). ⊎_elim (λ (i : j ≡ m). ap p i ∙ e) (l.none_before j) (eq-or-lt_of_le (omega arith)))
      (λ (z : m < n). absurd (never (sym (l.passes (λ x. omega arith)) ∙ e)))
      (eq-or-lt_of_le l.most) in
      record { most = omega arith; none_before = none; passes = λ u. absurd (u refl) }

  least : (n : ℕ) → Least p n (least_to p n)
  unfolding least_to
  least zero = record { most = omega arith; none_before = λ j h. absurd (not-suc-le-zero h); passes = λ u. absurd (u refl) }
  least (suc n) = next _ n (least_to p n) refl (least n)

  before : (n m k : ℕ) → Least p n m → Least p n k → m < k → ⊥
  before n m k a b h =
      let most = b.most in
      never (sym (a.passes (λ z. omega arith)) ∙ b.none_before m h)

  only_by : (b c : Bool) (n m k : ℕ) → ltb m k ≡ b → ltb k m ≡ c → Least p n m → Least p n k → m ≡ k
  only_by true c n m k e f a b = absurd (before n m k a b (ltb-true m k e))
  only_by false true n m k e f a b = absurd (before n k m b a (ltb-true k m f))
  only_by false false n m k e f a b = omega (arith, ltb-false m k e, ltb-false k m f)

  only : (n m k : ℕ) → Least p n m → Least p n k → m ≡ k
  only n m k = only_by _ _ n m k refl refl

-- ---- the digits worked

module _ (s f : ℕ) where
  pub worked : Least (multiple_at s f) 12 (digits_worked s f)
  unfolding digits_worked
  worked = least (multiple_at s f) 12

  pub worked_only : (n : ℕ) → Least (multiple_at s f) 12 n → n ≡ digits_worked s f
  worked_only n l = only (multiple_at s f) 12 n (digits_worked s f) l worked

  by_multiples : (n : ℕ) → Least (multiple_at s f) 12 n → LeastDigits s f n
  by_multiples n l =
      record {
        most = l.most;
        none_before = λ m h d. eqb-false (s * 10 ^ m % f) 0 (l.none_before m h) (mod-eq-zero_of_dvd f d);
        ends = λ u. dvd_of_mod-eq-zero f (eqb-true (s * 10 ^ n % f) 0 (l.passes u));
      }

  by_tests : (n : ℕ) → LeastDigits s f n → Least (multiple_at s f) 12 n
  by_tests n l =
      record {
        most = l.most;
        none_before = λ m h. ne_eqb (s * 10 ^ m % f) 0 (λ z. l.none_before m h (dvd_of_mod-eq-zero f z));
        passes = λ u. eq-eqb (s * 10 ^ n % f) 0 (mod-eq-zero_of_dvd f (l.ends u));
      }

pub whole : DigitsClaim
unfolding least_to digits_worked
whole =
    record {
      least = λ s f. by_multiples s f (digits_worked s f) (worked s f);
      only = λ s f n l. worked_only s f n (by_tests s f n l);
      ends_at_6 = refl;
      ends_at_7 = refl;
      ends_at_8 = refl;
      ends_at_9 = refl;
      ends_at_10 = refl;
      ends_at_11 = refl;
      ends_at_12 = refl;
      ends_behind_12 = refl;
      never_ends = refl;
      multiple = refl;
    }
