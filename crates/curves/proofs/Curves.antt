-- Laws of the curves: Horner's form, and a row read from its bits.
-- Assumes nothing.
use mathlib.Core.Path.{◌≡◌, refl, sym, ap, ◌∙◌}
use mathlib.Core.List.{List, [], ◌∷◌}
use Prim.Native.Nat.{ℕ, zero, suc, ◌+◌, ◌*◌, ◌/◌, ◌%◌, ◌<◌}
use native.Mathlib.Nat.{mul_assoc}
use native.Mathlib.Omega.{arith}
use lib.IntN.{ℤ, pos, negsuc, neg_ℤ, nat_abs, ◌+ℤ◌, ◌*ℤ◌, neg_ℤ-neg_ℤ, *ℤ_comm, *ℤ-zero, zero-*ℤ, suc_ℤ-*ℤ, +ℤ_assoc, +ℤ_comm}
use lib.ListN.{get_or}
use mir.Syntax.{w64}
use mir.Val.{to_z, of_z}
use Rattle.units.proofs.Signed.{arg}
use Rattle.curves.specs.Curves.{quadratic, SmallRow, value_at}

-- ---- Horner's form

-- (aV + b)V + c
abbrev pub horner : ℤ → ℤ → ℤ → ℕ → ℤ
horner a b c v = (a *ℤ pos v +ℤ b) *ℤ pos v +ℤ c

once_more : (z : ℤ) (v : ℕ) → z *ℤ pos (suc v) ≡ z *ℤ pos v +ℤ z
once_more z v = *ℤ_comm z (pos (suc v)) ∙ suc_ℤ-*ℤ (pos v) z ∙ ap (λ (y : ℤ). y +ℤ z) (*ℤ_comm (pos v) z)

cross : (a b c d : ℤ) → (a +ℤ b) +ℤ (c +ℤ d) ≡ (a +ℤ c) +ℤ (b +ℤ d)
cross a b c d =
    +ℤ_assoc a b (c +ℤ d) ∙ ap (λ (y : ℤ). a +ℤ y) (sym (+ℤ_assoc b c d) ∙ ap (λ (y : ℤ). y +ℤ d) (+ℤ_comm b c) ∙ +ℤ_assoc c b d) ∙
    sym (+ℤ_assoc a c (b +ℤ d))

spread : (x y : ℤ) (v : ℕ) → (x +ℤ y) *ℤ pos v ≡ x *ℤ pos v +ℤ y *ℤ pos v
spread x y zero = *ℤ-zero (x +ℤ y) ∙ sym (λ i. *ℤ-zero x i +ℤ *ℤ-zero y i)
spread x y (suc v) =
    once_more (x +ℤ y) v ∙ ap (λ (z : ℤ). z +ℤ (x +ℤ y)) (spread x y v) ∙ cross (x *ℤ pos v) (y *ℤ pos v) x y ∙
    sym (λ i. once_more x v i +ℤ once_more y v i)

neg_times : (x : ℤ) (w : ℕ) → neg_ℤ x *ℤ pos w ≡ neg_ℤ (x *ℤ pos w)
neg_times (pos zero) w = zero-*ℤ (pos w) ∙ sym (ap neg_ℤ (zero-*ℤ (pos w)))
neg_times (pos (suc n)) w = refl
neg_times (negsuc n) w = sym (neg_ℤ-neg_ℤ (pos (suc n * w)))

regroup : (a : ℤ) (v w : ℕ) → (a *ℤ pos v) *ℤ pos w ≡ a *ℤ (pos v *ℤ pos w)
regroup (pos a) v w = ap pos (mul_assoc a v w)
regroup (negsuc a) v w = neg_times (pos (suc a * v)) w ∙ ap (λ (n : ℕ). neg_ℤ (pos n)) (mul_assoc (suc a) v w)

-- the code's form is the printed one
pub horner_quadratic : (a b c : ℤ) (v : ℕ) → horner a b c v ≡ quadratic (a ∷ b ∷ c ∷ []) v
unfolding quadratic
horner_quadratic a b c v =
    ap (λ (y : ℤ). y +ℤ c) (spread (a *ℤ pos v) b v ∙ ap (λ (y : ℤ). y +ℤ b *ℤ pos v) (regroup a v v))

-- ---- a row of a lent table

-- a coefficient read back from its bits
abbrev pub bits_read : List (List ℤ) → ℕ → ℕ → ℤ
bits_read t q j = to_z w64 (of_z w64 (get_or (get_or t q []) j (pos 0)))

-- the quantity and the road of an index
pub by_road : {A : Type 0} (f : ℕ → ℕ → A) (q i j : ℕ) → i < 3 → j ≡ q * 3 + i → f (j / 3) (j % 3) ≡ f q i
by_road f q i j l e =
    let a : j / 3 ≡ q = omega arith in
    let b : j % 3 ≡ i = omega arith in
    λ k. f (a k) (b k)

pub read_value : (t : List (List ℤ)) (u r h q i j : ℕ) → i < 3 → j ≡ q * 3 + i → SmallRow (get_or t q []) (get_or (u ∷ r ∷ h ∷ []) i 0)
    → nat_abs (quadratic (bits_read t q 0 ∷ bits_read t q 1 ∷ bits_read t q 2 ∷ []) (get_or (u ∷ r ∷ h ∷ []) i 0)) ≡ value_at t u r h j
unfolding quadratic value_at
read_value t u r h q i j l e s =
    (λ k. nat_abs (quadratic ((arg tt s.first).same k ∷ (arg tt s.second).same k ∷ (arg tt s.third).same k ∷ []) (get_or (u ∷ r ∷ h ∷ []) i 0))) ∙
    sym (by_road (λ q i. nat_abs (quadratic (get_or t q []) (get_or (u ∷ r ∷ h ∷ []) i 0))) q i j l e)
