-- Adding up two runs, place by place. Assumes nothing.
use mathlib.Core.Path.{◌≡◌, refl, ap, ◌∙◌}
use Prim.Native.Nat.{ℕ, ◌+◌, ◌/◌, ◌%◌, ◌≤◌, ◌<◌}
use native.Mathlib.Omega.{arith}
use lib.ListN.{set}
use Rattle.units.proofs.Between.{Between, between_none, between_more, between}
use Rattle.inventory.specs.declared.Amount.{Amount}
use Rattle.inventory.specs.declared.Run.{Run}
use Rattle.inventory.specs.Amounts.{sum_amount, total_amount, with_sum, with_total}
use Rattle.inventory.specs.Order.{in_billionths, sum_at, km_in, exact_total, stored_total}
use Rattle.inventory.specs.Limits.{TotalLimits, Shaped}
use Rattle.inventory.specs.Adding.{billionths, total_made, total_grams_made, total_rest_made, with_totals}
use Rattle.inventory.proofs.Runs.{by_parts}
use Rattle.joins.specs.Joining.{slot_joined, grams_joined, rest_joined, km_joined, added_up, joined}
use Rattle.joins.proofs.Laws.{exact_in_lem}

-- the run and another are added up as far as so many fuels, sums and totals, and the run is else as it came
pub record AddedUp (a b : Run) (fuel j k : ℕ) (now : Run) : Type 0 where
  pub trip : now.trip ≡ a.trip
  pub x : now.x ≡ a.x
  pub count : now.count ≡ a.count + b.count
  pub kms : Between (record { 0 = 0 }) (km_joined a b) a.km 3 0 fuel now.km
  pub grams : Between (record { 0 = 0 }) (grams_joined a b) a.grams 60 0 j now.grams
  pub rests : Between 0 (rest_joined a b) a.rests 60 0 j now.rests
  pub total_grams : Between (record { 0 = 0 }) (total_grams_made (added_up a b)) a.total_grams 15 0 k now.total_grams
  pub total_rests : Between 0 (total_rest_made (added_up a b)) a.total_rests 15 0 k now.total_rests

module _ (a b : Run) where
  pub begun : Shaped a → AddedUp a b 0 0 0 (record a { count = a.count + b.count })
  begun s =
      record {
        trip = refl;
        x = refl;
        count = refl;
        kms = between_none _ _ _ _ _ _ s.kms refl;
        grams = between_none _ _ _ _ _ _ s.grams refl;
        rests = between_none _ _ _ _ _ _ s.rests refl;
        total_grams = between_none _ _ _ _ _ _ s.total_grams refl;
        total_rests = between_none _ _ _ _ _ _ s.total_rests refl;
      }

  module _ {fuel j k : ℕ} {now : Run} (i : AddedUp a b fuel j k now) where
    -- what is not added up yet is that of the first
    pub km_above : km_in now fuel ≡ km_in a fuel
    km_above = ap (λ m. m.0) (i.kms.above fuel (omega arith))

    pub sum_above : in_billionths (sum_amount now j) ≡ sum_at a j
    unfolding sum_at
    sum_above = rw (i.grams.above j (omega arith), i.rests.above j (omega arith))

    pub total_above : in_billionths (total_amount now k) ≡ stored_total a k
    total_above = rw (i.total_grams.above k (omega arith), i.total_rests.above k (omega arith))

    -- one place more
    pub km_more : fuel < 3 → AddedUp a b (fuel + 1) j k (record now { km = set now.km fuel (record { 0 = km_in now fuel + km_in b fuel }) })
    unfolding km_joined
    km_more h =
        record {
          trip = i.trip;
          x = i.x;
          count = i.count;
          kms = between_more fuel (fuel + 1) _ i.kms refl refl (omega arith) h (rw km_above);
          grams = i.grams;
          rests = i.rests;
          total_grams = i.total_grams;
          total_rests = i.total_rests;
        }

    pub sum_more : j < 60 → (s : Amount) → s ≡ billionths (in_billionths (sum_amount now j) + in_billionths (sum_amount b j)) → AddedUp a b fuel (j + 1) k (with_sum now j s)
    unfolding slot_joined sum_at
    sum_more h s e =
        let f : s ≡ slot_joined a b j = rw sum_above at e in
        record {
          trip = i.trip;
          x = i.x;
          count = i.count;
          kms = i.kms;
          grams = between_more j (j + 1) _ i.grams refl refl (omega arith) h (ap (λ t. t.grams) f);
          rests = between_more j (j + 1) _ i.rests refl refl (omega arith) h (ap (λ t. t.rest) f);
          total_grams = i.total_grams;
          total_rests = i.total_rests;
        }

-- both totals in one are the total of the sums
pub total_both : (a b : Run) → TotalLimits a → TotalLimits b → (k : ℕ) → k < 15
    → billionths (stored_total a k + stored_total b k) ≡ total_made (added_up a b) k
unfolding total_made exact_total sum_at joined with_totals
total_both a b l m k h = ap billionths (omega (arith, l.exact k h, m.exact k h, exact_in_lem a b (k / 5) (k % 5) (omega arith) (omega arith)))

module _ (a b : Run) {fuel j k : ℕ} {now : Run} (i : AddedUp a b fuel j k now) where
  pub total_more : TotalLimits a → TotalLimits b → k < 15 → (s : Amount) → s ≡ billionths (in_billionths (total_amount now k) + in_billionths (total_amount b k))
      → AddedUp a b fuel j (k + 1) (with_total now k s)
  total_more l m h s e =
      let f : s ≡ total_made (added_up a b) k = (rw (total_above a b i) at e) ∙ total_both a b l m k h in
      record {
        trip = i.trip;
        x = i.x;
        count = i.count;
        kms = i.kms;
        grams = i.grams;
        rests = i.rests;
        total_grams = between_more k (k + 1) _ i.total_grams refl refl (omega arith) h (ap (λ t. t.grams) f);
        total_rests = between_more k (k + 1) _ i.total_rests refl refl (omega arith) h (ap (λ t. t.rest) f);
      }

  -- all places
  pub all_added : 3 ≤ fuel → 60 ≤ j → 15 ≤ k → now ≡ joined a b
  unfolding joined with_totals added_up
  all_added f s t =
      by_parts now (joined a b) i.trip i.x i.count (between i.kms (λ p h o. absurd (o (omega arith) (omega arith)))) (between i.grams (λ p h o. absurd (o (omega arith) (omega arith))))
      (between i.rests (λ p h o. absurd (o (omega arith) (omega arith)))) (between i.total_grams (λ p h o. absurd (o (omega arith) (omega arith))))
      (between i.total_rests (λ p h o. absurd (o (omega arith) (omega arith))))
