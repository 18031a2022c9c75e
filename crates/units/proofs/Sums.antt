-- Laws of sums and tests over the numbers below n. Assumes nothing.
use mathlib.Core.Path.{◌≡◌, refl}
use mathlib.Core.Bool.{Bool, true, false}
use mathlib.Core.Logic.{◌⊎◌, inl, inr, ⊎_elim}
use Prim.Native.Nat.{ℕ, zero, suc, ◌+◌, ◌*◌, ◌-◌, ◌≤◌, ◌<◌}
use native.Mathlib.Nat.{eq-or-lt_of_le, le_of_suc-le-suc}
use native.Mathlib.Omega.{arith}
use lib.Dec.{leb}
use borrow.Author.Tests.{leb-true, leb-false}
use Rattle.units.specs.Lists.{all_below, sum_to}

le_by : (a b : ℕ) (t : Bool) → leb a b ≡ t → (a ≤ b) ⊎ (b < a)
le_by a b true e = inl (leb-true a b e)
le_by a b false e = inr (leb-false a b e)

pub le_or_lt : (a b : ℕ) → (a ≤ b) ⊎ (b < a)
le_or_lt a b = le_by a b _ refl

-- two tests that are alike below n
pub all_alike : (f g : ℕ → Bool) (n : ℕ) → ((k : ℕ) → k < n → f k ≡ g k) → all_below f n ≡ all_below g n
unfolding all_below
all_alike f g zero h = refl
all_alike f g (suc n) h = rw (all_alike f g n (λ k l. h k (omega arith)), h n (omega arith))

-- two sums whose terms are alike
pub sum_alike : (f g : ℕ → ℕ) (n : ℕ) → ((k : ℕ) → k < n → f k ≡ g k) → sum_to f n ≡ sum_to g n
unfolding sum_to
sum_alike f g zero h = refl
sum_alike f g (suc n) h = rw (sum_alike f g n (λ k l. h k (omega arith)), h n (omega arith))

-- two sums of which one term differs
pub sum_one : (f g : ℕ → ℕ) (k d n : ℕ) → g k ≡ f k + d → ((j : ℕ) → (j ≡ k → ⊥) → g j ≡ f j) → k < n → sum_to g n ≡ sum_to f n + d
unfolding sum_to
sum_one f g k d zero p q h = absurd (omega arith)
sum_one f g k d (suc n) p q h =
    ⊎_elim (λ (e : k ≡ n). rw (← e, p, sum_alike g f k (λ j l. q j (λ z. omega arith))) (omega arith))
    (λ (l : k < n). rw (q n (λ z. omega arith), sum_one f g k d n p q l) (omega arith)) (eq-or-lt_of_le (le_of_suc-le-suc h))

-- a term is at most its sum
pub term_most : (f : ℕ → ℕ) (n i : ℕ) → i < n → f i ≤ sum_to f n
unfolding sum_to
term_most f zero i h = absurd (omega arith)
term_most f (suc n) i h =
    ⊎_elim (λ (e : i ≡ n). rw e (omega arith)) (λ (l : i < n). omega (arith, term_most f n i l)) (eq-or-lt_of_le (le_of_suc-le-suc h))

-- a sum over fewer terms is not more
pub fewer_terms : (f : ℕ → ℕ) (m n : ℕ) → m ≤ n → sum_to f m ≤ sum_to f n
unfolding sum_to
fewer_terms f m zero h = let e : m ≡ 0 = omega arith in rw e (omega arith)
fewer_terms f m (suc n) h =
    ⊎_elim (λ (a : m ≤ n). omega (arith, fewer_terms f m n a)) (λ (b : n < m). (let e : m ≡ suc n = omega arith in rw e (omega arith))) (le_or_lt m n)

-- a sum is at most m for each of its terms, and what they have beyond m
pub sum_beyond : (f : ℕ → ℕ) (m n : ℕ) → sum_to f n ≤ m * n + sum_to (λ i. f i - m) n
unfolding sum_to
sum_beyond f m zero = omega arith
sum_beyond f m (suc n) = omega (arith, sum_beyond f m n)
