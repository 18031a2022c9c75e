-- The total of four kinds, and the totals of a run. Assumes nothing.
use mathlib.Core.Path.{◌≡◌, refl, ap, ◌∙◌}
use Prim.Native.Nat.{ℕ, ◌+◌, ◌*◌, ◌-◌, ◌/◌, ◌≤◌, ◌<◌}
use native.Mathlib.Omega.{arith}
use Rattle.units.proofs.Between.{Between, between_more, between}
use Rattle.inventory.specs.declared.Amount.{Amount}
use Rattle.inventory.specs.declared.Run.{Run}
use Rattle.inventory.specs.Amounts.{sum_amount, with_total}
use Rattle.inventory.specs.Order.{in_billionths, grams_in, rest_in}
use Rattle.inventory.specs.Adding.{billionths, total_made, total_grams_made, total_rest_made, with_totals}
use Rattle.inventory.specs.Limits.{AmountLimits, RunLimits}
use Rattle.inventory.proofs.Amounts.{value, rest_small}
use Rattle.inventory.proofs.Stored.{exact_at, stored_grams, stored_rest}
use Rattle.run_totals.specs.Between.{of_amounts, KeptOutside}

-- an amount by its parts
amount : {g h r s : ℕ} → g ≡ h → r ≡ s → ◌≡◌ {A = Amount} (record { grams = record { 0 = g }; rest = r }) (record { grams = record { 0 = h }; rest = s })
amount p q = cc

-- the carry without a branch
pub carried : (g r h t : ℕ) → r < 1000000000 → t < 1000000000
    → ◌≡◌ {A = Amount}
    (record { grams = record { 0 = g + h + (r + t + 73741824) / 1073741824 }; rest = r + t - (r + t + 73741824) / 1073741824 * 1000000000 })
    (billionths (g * 1000000000 + r + (h * 1000000000 + t)))
unfolding billionths
carried g r h t a b = amount (omega arith) (omega arith)

-- one amount more
pub one_more : (m n : ℕ) → billionths ((billionths m).grams.0 * 1000000000 + (billionths m).rest + n) ≡ billionths (m + n)
one_more m n = rw (value m)

-- an amount of so many billionths, at most 1.6 × 10^16 g
pub amount_at : (a : Amount) (n : ℕ) → a ≡ billionths n → n ≤ 16000000000000000000000000 → AmountLimits a
amount_at a n e h = rw e (record { grams = omega (arith, value n); rest = rest_small n })

-- a third and a fourth amount to two
pub three_in_one : (a b : Amount) (m n : ℕ) → a ≡ billionths m → b ≡ billionths (a.grams.0 * 1000000000 + a.rest + n) → b ≡ billionths (m + n)
three_in_one a b m n e f = f ∙ ap (λ x. billionths (x.grams.0 * 1000000000 + x.rest + n)) e ∙ one_more m n

-- what is made of the four sums at k × 4 is the total k
pub total_made_lem : (run : Run) (k j : ℕ) (t : Amount) → j ≡ k * 4
    → t ≡ billionths
    (grams_in run j * 1000000000 + rest_in run j + (grams_in run (j + 1) * 1000000000 + rest_in run (j + 1))
    + (grams_in run (j + 2) * 1000000000 + rest_in run (j + 2)) + (grams_in run (j + 3) * 1000000000 + rest_in run (j + 3)))
    → t ≡ total_made run k
unfolding total_made
total_made_lem run k j t e h = h ∙ ap billionths (exact_at run k j e)

-- the limits of a run, by its amounts alone
pub amounts_limits : (run : Run) → RunLimits run → RunLimits (of_amounts run.grams run.rests run.total_grams run.total_rests)
amounts_limits run lim =
    record { few = omega arith; x_most_lem = λ i h. omega arith; rest_below = lim.rest_below; grams_most = lim.grams_most; km_most = λ fuel h. omega arith }

-- the totals are made from one place up to another, and the run is else as it came
pub record MadeTo (old : Run) (from k : ℕ) (now : Run) : Type 0 where
  pub others : record now { total_grams = old.total_grams; total_rests = old.total_rests } ≡ old
  pub grams : Between (record { 0 = 0 }) (total_grams_made old) old.total_grams 15 from k now.total_grams
  pub rests : Between 0 (total_rest_made old) old.total_rests 15 from k now.total_rests

module _ (old : Run) (from : ℕ) where
  -- the sums are those of the old run
  pub sums_kept : {k : ℕ} {now : Run} → MadeTo old from k now → (j : ℕ) → in_billionths (sum_amount now j) ≡ in_billionths (sum_amount old j)
  sums_kept i j = ap (λ (r : Run). in_billionths (sum_amount r j)) i.others

  pub made_more : {k : ℕ} {now : Run} → MadeTo old from k now → from ≤ k → k < 15 → (t : Amount) → t ≡ total_made old k → MadeTo old from (k + 1) (with_total now k t)
  made_more {k} {now} i h l t e =
      record {
        others = i.others;
        grams = between_more k (k + 1) _ i.grams refl refl h l (ap (λ a. a.grams) e);
        rests = between_more k (k + 1) _ i.rests refl refl h l (ap (λ a. a.rest) e);
      }

  -- all that were not right are made
  pub all_made : {k to : ℕ} {now : Run} → KeptOutside old from to → to ≤ k → MadeTo old from k now → now ≡ with_totals old
  unfolding with_totals
  all_made {k} {to} {now} out h i =
      let g : now.total_grams ≡ (with_totals old).total_grams = between i.grams (λ j l o. stored_grams old j (out.kept j l (λ a b. o a (omega arith)))) in
      let r : now.total_rests ≡ (with_totals old).total_rests = between i.rests (λ j l o. stored_rest old j (out.kept j l (λ a b. o a (omega arith)))) in
      ap (λ (r : Run). record r { total_grams = now.total_grams; total_rests = now.total_rests }) i.others
      ∙ (λ k. record old { total_grams = g k; total_rests = r k })
