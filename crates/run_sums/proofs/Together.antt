-- Sums whose grams and rests are small under `or`, and totals. Assumes nothing.
use mathlib.Core.Path.{◌≡◌, sym}
use mathlib.Core.Logic.{⊎_elim}
use mathlib.Core.Bool.{true}
use Prim.Native.Nat.{ℕ, ◌+◌, ◌*◌, ◌/◌, ◌%◌, ◌<◌, ◌≤◌}
use native.Mathlib.Nat.{eq-or-lt_of_le}
use native.Mathlib.Omega.{arith}
use lib.Bits.{bit_or, or_add_and, and_le_r, or_comm}
use Rattle.units.specs.Lists.{all_below}
use Rattle.units.proofs.Tests.{all}
use Rattle.inventory.specs.declared.Amount.{Amount}
use Rattle.inventory.specs.declared.Run.{Run}
use Rattle.inventory.specs.Order.{grams_in, rest_in, sum_at, place, exact_total, total_grams_in, total_rest_in, sum_ok, total_ok, sums_ok}
use Rattle.inventory.proofs.Order.{sum_good, amount_good}
use Rattle.run_sums.specs.Marks.{rest_mark}

le_or_l : (a b : ℕ) → a ≤ bit_or a b
le_or_l a b = omega (arith, or_add_and a b, and_le_r a b)

le_or_r : (a b : ℕ) → b ≤ bit_or a b
le_or_r a b = rw (or_comm a b) (le_or_l b a)

-- below k each has an amount with at most so many grams and such a rest, which a loop makes of them by `or`
abbrev pub Some_within : (ℕ → Amount → Type 0) → ℕ → ℕ → ℕ → Type 0
Some_within P k grams rest = (i : ℕ) → i < k → (a : Amount) × P i a × (a.grams.0 ≤ grams) × (a.rest ≤ rest)

pub or_more : (P : ℕ → Amount → Type 0) (k grams rest : ℕ) (y : Amount) → Some_within P k grams rest → P k y
    → Some_within P (k + 1) (bit_or grams y.grams.0) (bit_or rest y.rest)
or_more P k grams rest y u p i l =
    ⊎_elim (λ (q : i ≡ k). rw q (y, p, le_or_r grams y.grams.0, le_or_r rest y.rest))
    (λ (q : i < k). let v = u i q in (v.0, v.1, omega (arith, v.2, le_or_l grams y.grams.0), omega (arith, v.3, le_or_l rest y.rest)))
    (eq-or-lt_of_le (omega arith))

-- f 0, .., f (k - 1) are at most `any`
abbrev pub Within : (ℕ → ℕ) → ℕ → ℕ → Type 0
Within f k any = (j : ℕ) → j < k → f j ≤ any

pub within : (f g : ℕ → ℕ) (P : ℕ → Amount → Type 0) (k : ℕ) (any : Amount) → ((i : ℕ) (a : Amount) → P i a → (a.grams.0 ≡ f i) × (a.rest ≡ g i))
    → Some_within P k any.grams.0 any.rest → Within f k any.grams.0 × Within g k any.rest
within f g P k any e u = (
  (λ j l. let v = u j l in omega (arith, v.2, e j v.0 v.1)),
  (λ j l. let v = u j l in omega (arith, v.3, e j v.0 v.1)),
)

module _ (run : Run) (grams : ℕ) (u : Within (grams_in run) 60 grams) where
  -- the grams are below the limit together, and every mark below 2^29
  pub together : (marks : ℕ) → Within (λ j. rest_mark (rest_in run j)) 60 marks → marks < 536870912 → grams < 1000000000000 * run.count → true ≡ all_below (sum_ok run) 60
  together marks v z y = sym (all (sum_ok run) 60 (λ j l. let p = u j l in let q = v j l in sum_good _ _ _ (omega (arith, q)) (omega (arith, p, q))))

-- no number of the sums and the totals has a bit
module _ (run : Run) (a b c d : ℕ) (u : Within (grams_in run) 60 a) (v : Within (rest_in run) 60 b)
    (t : Within (total_grams_in run) 15 c) (w : Within (total_rest_in run) 15 d) (z : bit_or (bit_or a b) (bit_or c d) ≡ 0) where
  nothing : (a ≡ 0) × (b ≡ 0) × (c ≡ 0) × (d ≡ 0)
  nothing =
      let s = le_or_l (bit_or a b) (bit_or c d) in
      let r = le_or_r (bit_or a b) (bit_or c d) in
      (omega (arith, s, le_or_l a b), omega (arith, s, le_or_r a b), omega (arith, r, le_or_l c d), omega (arith, r, le_or_r c d))

  none_sum : (j : ℕ) → j < 60 → sum_at run j ≡ 0
  unfolding sum_at
  none_sum j h = omega (arith, u j h, v j h, nothing)

  none_exact : (fuel quantity : ℕ) → fuel < 3 → quantity < 5 → exact_total run fuel quantity ≡ 0
  unfolding exact_total
  none_exact fuel quantity f q =
      omega (arith, none_sum (place fuel quantity 0) (omega arith), none_sum (place fuel quantity 1) (omega arith), none_sum (place fuel quantity 2) (omega arith), none_sum (place fuel quantity 3) (omega arith))

  no_sums : all_below (sum_ok run) 60 ≡ true
  no_sums = all (sum_ok run) 60 (λ j h. sum_good _ _ _ (omega (arith, v j h, nothing)) (omega (arith, u j h, v j h, nothing)))

  no_totals : all_below (total_ok run) 15 ≡ true
  no_totals =
      all (total_ok run) 15
      (λ k h. amount_good _ _ _ (omega (arith, w k h, nothing)) (omega (arith, t k h, w k h, nothing, none_exact (k / 5) (k % 5) (omega arith) (omega arith))))

  pub all_none : true ≡ sums_ok run
  all_none = rw (no_sums, no_totals)
