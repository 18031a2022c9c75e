-- The sums with a record, quantity by quantity. Assumes nothing.
use mathlib.Core.Path.{◌≡◌, refl, ap, sym, ◌∙◌}
use Prim.Native.Nat.{ℕ, ◌+◌, ◌*◌, ◌/◌, ◌≤◌, ◌<◌}
use native.Mathlib.Omega.{arith}
use lib.ListN.{length}
use Rattle.units.specs.Lists.{tab}
use Rattle.units.proofs.Between.{Between, between_none, between_more, between}
use Rattle.classes.specs.Classes.{fuel_of}
use Rattle.inventory.specs.declared.Amount.{Amount}
use Rattle.inventory.specs.declared.Record.{Record}
use Rattle.inventory.specs.declared.Run.{Run}
use Rattle.inventory.specs.Amounts.{sum_amount, with_sum}
use Rattle.inventory.specs.Limits.{RunLimits}
use Rattle.inventory.specs.Order.{grams_in, rest_in, sum_at, in_billionths}
use Rattle.inventory.specs.Adding.{grams_after, rest_after, slot_after}
use Rattle.inventory.proofs.Adding.{kept_grams, kept_rest}
use Rattle.sums.specs.Parts.{of_sums, with_sums}

-- the sums of a record's fuel are raised up to a quantity, and the run is else as it came
pub record RaisedTo (old : Run) (rec : Record) (fuel q : ℕ) (now : Run) : Type 0 where
  pub others : record now { grams = old.grams; rests = old.rests } ≡ old
  pub grams : Between (record { 0 = 0 }) (grams_after old rec) old.grams 60 (fuel * 20) (fuel * 20 + q * 4) now.grams
  pub rests : Between 0 (rest_after old rec) old.rests 60 (fuel * 20) (fuel * 20 + q * 4) now.rests

module _ (old : Run) (rec : Record) (fuel : ℕ) where
  pub raised_none : length old.grams ≡ 60 → length old.rests ≡ 60 → RaisedTo old rec fuel 0 old
  raised_none g r =
      record { others = refl; grams = between_none _ _ _ _ _ _ g (omega arith); rests = between_none _ _ _ _ _ _ r (omega arith) }

  module _ {q : ℕ} {now : Run} (i : RaisedTo old rec fuel q now) where
    -- a sum that is not raised yet is that of the old run
    grams_above : (j : ℕ) → fuel * 20 + q * 4 ≤ j → grams_in now j ≡ grams_in old j
    grams_above j h = ap (λ g. g.0) (i.grams.above j h)

    pub amount_above : (j : ℕ) → fuel * 20 + q * 4 ≤ j → in_billionths (sum_amount now j) ≡ grams_in old j * 1000000000 + rest_in old j
    amount_above j h = rw (grams_above j h, i.rests.above j h)

    pub x_kept : now.x ≡ old.x
    x_kept = ap (λ r. r.x) i.others

    -- the four sums of one quantity more
    pub raised_more : (b : ℕ) → b ≡ fuel * 20 + q * 4 → b + 3 < 60 → (s0 s1 s2 s3 : Amount) → s0 ≡ slot_after old rec b → s1 ≡ slot_after old rec (b + 1)
        → s2 ≡ slot_after old rec (b + 2) → s3 ≡ slot_after old rec (b + 3)
        → RaisedTo old rec fuel (q + 1) (with_sum (with_sum (with_sum (with_sum now b s0) (b + 1) s1) (b + 2) s2) (b + 3) s3)
    raised_more b e h s0 s1 s2 s3 e0 e1 e2 e3 =
        record {
          others = i.others;
          grams = between_more (b + 3) _ _ (between_more (b + 2) (b + 3) _ (between_more (b + 1) (b + 2) _ (between_more b (b + 1) _ i.grams e refl (omega arith) (omega arith) (ap (λ s. s.grams) e0)) refl (omega arith) (omega arith) (omega arith) (ap (λ s. s.grams) e1)) refl (omega arith) (omega arith) (omega arith) (ap (λ s. s.grams) e2)) refl (omega arith) (omega arith) (omega arith) (ap (λ s. s.grams) e3);
          rests = between_more (b + 3) _ _ (between_more (b + 2) (b + 3) _ (between_more (b + 1) (b + 2) _ (between_more b (b + 1) _ i.rests e refl (omega arith) (omega arith) (ap (λ s. s.rest) e0)) refl (omega arith) (omega arith) (omega arith) (ap (λ s. s.rest) e1)) refl (omega arith) (omega arith) (omega arith) (ap (λ s. s.rest) e2)) refl (omega arith) (omega arith) (omega arith) (ap (λ s. s.rest) e3);
        }

  -- all five quantities
  module _ {now : Run} (ef : fuel ≡ fuel_of rec.class) (hf : fuel ≤ 2) (lim : RunLimits (of_sums old.x old.grams old.rests)) (i : RaisedTo old rec fuel 5 now) where
    -- a slot outside the 20 is of another fuel
    outside : (j : ℕ) → (fuel * 20 ≤ j → j < fuel * 20 + 5 * 4 → ⊥) → j / 20 ≡ fuel_of rec.class → ⊥
    outside j out z = let y : j / 20 ≡ fuel = z ∙ sym ef in out (omega arith) (omega arith)

    grams_raised : now.grams ≡ tab (grams_after old rec) 60
    unfolding slot_after sum_at
    grams_raised = between i.grams (λ j l out. kept_grams (of_sums old.x old.grams old.rests) rec lim j l (outside j out))

    rests_raised : now.rests ≡ tab (rest_after old rec) 60
    unfolding slot_after sum_at
    rests_raised = between i.rests (λ j l out. kept_rest (of_sums old.x old.grams old.rests) rec lim j l (outside j out))

    pub all_raised : now ≡ with_sums old rec
    all_raised =
        ap (λ (r : Run). record r { grams = now.grams; rests = now.rests }) i.others
        ∙ (λ k. record old { grams = grams_raised k; rests = rests_raised k })
