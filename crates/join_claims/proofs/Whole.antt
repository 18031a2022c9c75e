-- The laws of joining, whole. Assumes nothing.
use mathlib.Core.Path.{◌≡◌, refl, ap, sym, ◌∙◌}
use mathlib.Core.Bool.{Bool, true, false, not, cond, ◌||◌}
use mathlib.Core.List.{List}
use Prim.Native.Nat.{ℕ, suc, ◌+◌, ◌/◌, ◌%◌, ◌≤◌, ◌<◌}
use native.Mathlib.Nat.{add_comm, add_assoc}
use native.Mathlib.Omega.{arith}
use borrow.Author.Tests.{ne_eqb}
use lib.Dec.{eqb, ltb}
use lib.ListN.{get_or}
use lib.Seq.{ext_get_or}
use Rattle.units.specs.Grounds.{first_fit}
use Rattle.units.proofs.Sums.{sum_alike}
use Rattle.units.proofs.Tab.{tab_length, tab_alike, tab_of}
use Rattle.inventory.specs.declared.Head.{Head}
use Rattle.inventory.specs.declared.Run.{Run}
use Rattle.inventory.specs.Limits.{Shaped}
use Rattle.inventory.specs.Order.{in_order, same_head, rest_in, km_in, sum_at, stored_total}
use Rattle.inventory.specs.Adding.{billionths, with_totals}
use Rattle.inventory.specs.Opening.{empty_run, fresh_run, open_number, open_run}
use Rattle.inventory.proofs.Fresh.{empty_sum, empty_km, opened_is, fresh_order}
use Rattle.inventory.proofs.Heads.{trip_same, x_same, head_back, head_on, head_either}
use Rattle.inventory.proofs.Order.{rest_of, count_of, total_of_lem, total_limits}
use Rattle.inventory.proofs.Runs.{totals_again, totals_by, as_km, as_grams, shaped_opened}
use Rattle.areas.specs.Areas.{counts_of}
use Rattle.areas.specs.Numbers.{areas_of}
use Rattle.areas.specs.Calls.{numbers_in_order, area_run}
use Rattle.areas.proofs.Adding.{run_given}
use Rattle.areas.proofs.Order.{run_ok, head_ok, records_most, areas_ok}
use Rattle.joins.specs.Joining.{join_grounds, join_number, slot_joined, grams_joined, rest_joined, km_joined, added_up, joined, join_run, joined_to}
use Rattle.joins.proofs.Laws.{counted, good_join, Taken, taken, run_kept, run_joined, km_in_lem, sum_in, exact_in_lem, order_joined, order_kept, head_joined, all_taken}
use Rattle.join_claims.specs.Claim.{Both, Associates, Neutral, JoinClaim}

-- ---- commutative

exchanged : (p q : Bool) (n : ℕ) → cond p 16 (cond q 16 n) ≡ cond q 16 (cond p 16 n)
exchanged true true n = refl
exchanged true false n = refl
exchanged false true n = refl
exchanged false false n = refl

same_number : (a b : Run) → join_number a b ≡ join_number b a
unfolding join_number join_grounds first_fit
same_number a b = rw (head_either a b, add_comm a.count b.count) (exchanged (not (in_order a)) (not (in_order b)) _)

-- the runs of both, made from equal counts, kilometres and sums
alike : (a b c d : Run) → a.trip ≡ c.trip → a.x ≡ c.x → a.count + b.count ≡ c.count + d.count
    → ((fuel : ℕ) → fuel < 3 → km_in a fuel + km_in b fuel ≡ km_in c fuel + km_in d fuel)
    → ((j : ℕ) → j < 60 → sum_at a j + sum_at b j ≡ sum_at c j + sum_at d j) → joined a b ≡ joined c d
unfolding joined added_up km_joined slot_joined
alike a b c d t x n k s =
    totals_by (added_up a b) (added_up c d) t x n
    (tab_alike (km_joined a b) (km_joined c d) 3 (λ f h. ap (λ m. record { 0 = m }) (k f h)))
    (tab_alike (grams_joined a b) (grams_joined c d) 60 (λ j h. ap (λ m. (billionths m).grams) (s j h)))
    (tab_alike (rest_joined a b) (rest_joined c d) 60 (λ j h. ap (λ m. (billionths m).rest) (s j h)))

commutative : (a b : Run) → Shaped a → Shaped b → join_number a b ≡ 0 → join_run a b ≡ join_run b a
commutative a b sa sb z =
    let s = (taken a b z).same in
    let x : a.x ≡ b.x = ext_get_or 0 a.x b.x (sa.xs ∙ sym sb.xs) (λ i h. x_same a b s i (rw sa.xs at h)) in
    sym (run_joined a b z)
    ∙ alike a b b a (trip_same a b s) x (add_comm a.count b.count) (λ f h. add_comm (km_in a f) (km_in b f)) (λ j h. add_comm (sum_at a j) (sum_at b j))
    ∙ run_joined b a (sym (same_number a b) ∙ z)

-- ---- associative

module _ (a b c : Run) (left : Taken a b) (right : Taken b c) where
  order_left : in_order (joined a b) ≡ true
  order_left = order_joined a b left.first left.second left.few

  order_right : in_order (joined b c) ≡ true
  order_right = order_joined b c right.first right.second right.few

  head_left : same_head (joined a b) c ≡ true
  head_left = head_joined a b c (head_on a b c left.same right.same)

  head_right : same_head a (joined b c) ≡ true
  head_right = head_back (joined b c) a (head_joined b c a (head_back a b left.same))

  one_number : join_number (joined a b) c ≡ join_number a (joined b c)
  unfolding joined with_totals added_up
  one_number =
      sym (counted (joined a b) c order_left right.second head_left)
      ∙ ap (λ n. cond (ltb 5000 n) 22 0) (add_assoc a.count b.count c.count)
      ∙ counted a (joined b c) left.first order_right head_right

  one_run : joined (joined a b) c ≡ joined a (joined b c)
  unfolding joined with_totals added_up
  one_run =
      alike (joined a b) c a (joined b c) refl refl (add_assoc a.count b.count c.count)
      (λ f h. omega (arith, km_in_lem a b f h, km_in_lem b c f h)) (λ j h. omega (arith, sum_in a b j h, sum_in b c j h))

associative : (a b c : Run) → join_number a b ≡ 0 → join_number b c ≡ 0 → Associates a b c
associative a b c z y =
    let l = taken a b z in
    let r = taken b c y in
    let n = one_number a b c l r in
    let ab = run_joined a b z in
    let bc = run_joined b c y in
    record {
      number = rw (← ab, ← bc) n;
      run = rw (← ab, ← bc) (λ w. sym (run_joined (joined a b) c w) ∙ one_run a b c l r ∙ run_joined a (joined b c) (sym n ∙ w));
    }

-- ---- a fresh run

module _ (run : Run) (j : ℕ) (small : rest_in run j < 1000000000) where
  own_grams : (billionths (sum_at run j)).grams ≡ get_or run.grams j (record { 0 = 0 })
  unfolding billionths sum_at
  own_grams = as_grams (omega arith)

  own_rest : (billionths (sum_at run j)).rest ≡ rest_in run j
  unfolding billionths sum_at
  own_rest = omega arith

-- a run without records brings nothing
module _ (run : Run) (shaped : Shaped run) (order : in_order run ≡ true) (trip : ℕ) (xs : List ℕ) where
  count_kept : run.count + (empty_run trip xs).count ≡ run.count
  unfolding empty_run
  count_kept = omega arith

  empty_right : joined run (empty_run trip xs) ≡ run
  unfolding joined added_up km_joined slot_joined
  empty_right =
      let km : (f : ℕ) → f < 3 → km_in run f + km_in (empty_run trip xs) f ≡ km_in run f = λ f h. omega (arith, empty_km trip xs f h) in
      let sum : (j : ℕ) → j < 60 → sum_at run j + sum_at (empty_run trip xs) j ≡ sum_at run j = λ j h. omega (arith, empty_sum trip xs j h) in
      totals_by (added_up run (empty_run trip xs)) run refl refl count_kept
      (tab_of (record { 0 = 0 }) (km_joined run (empty_run trip xs)) run.km 3 shaped.kms (λ f h. as_km (km f h)))
      (tab_of (record { 0 = 0 }) (grams_joined run (empty_run trip xs)) run.grams 60 shaped.grams
      (λ j h. ap (λ n. (billionths n).grams) (sum j h) ∙ own_grams run j (rest_of run order j h)))
      (tab_of 0 (rest_joined run (empty_run trip xs)) run.rests 60 shaped.rests
      (λ j h. ap (λ n. (billionths n).rest) (sum j h) ∙ own_rest run j (rest_of run order j h)))
      ∙ totals_again run (total_of_lem run order) shaped

module _ (run : Run) (head : Head) (shaped : Shaped run) (order : in_order run ≡ true) (opens : open_number head ≡ 0) (same : same_head run (open_run head) ≡ true) where
  fresh_right : joined run (open_run head) ≡ run
  unfolding fresh_run
  fresh_right = rw (opened_is head opens) (empty_right run shaped order head.trip _)

  fresh_count : run.count + (open_run head).count ≤ 5000
  unfolding fresh_run empty_run
  fresh_count = let none : (open_run head).count ≡ 0 = ap (λ r. r.count) (opened_is head opens) in omega (arith, none, count_of run order)

  fresh_taken : join_number run (open_run head) ≡ 0
  fresh_taken = sym (good_join run (open_run head) order (rw (opened_is head opens) (fresh_order head opens)) same fresh_count)

  neutral : Neutral run (open_run head)
  neutral =
      let right : join_run run (open_run head) ≡ run = sym (run_joined run (open_run head) fresh_taken) ∙ fresh_right in
      record {
        taken_right = fresh_taken;
        right = right;
        taken_left = same_number (open_run head) run ∙ fresh_taken;
        left = sym (commutative run (open_run head) shaped (shaped_opened head) fresh_taken) ∙ right;
      }

-- ---- what a join gives

either : (p q : Bool) (n : ℕ) → cond p 16 (cond q 16 n) ≡ cond (p || q) 16 n
either true q n = refl
either false q n = refl

numbers : (a b : Run)
    → join_number a b ≡ cond (not (in_order a) || not (in_order b)) 16 (cond (not (same_head a b)) 21 (cond (ltb 5000 (a.count + b.count)) 22 0))
unfolding join_number join_grounds first_fit
numbers a b = either (not (in_order a)) (not (in_order b)) _

refused : (a b : Run) → (join_number a b ≡ 0 → ⊥) → join_run a b ≡ a
refused a b h = sym (run_kept a b (join_number a b) refl (ne_eqb _ 0 h))

stored_in : (a b : Run) → join_number a b ≡ 0 → (k : ℕ) → k < 15 → stored_total (joined a b) k ≡ stored_total a k + stored_total b k
stored_in a b z k h =
    let t = taken a b z in
    omega (
      arith,
      (total_limits (joined a b) (order_joined a b t.first t.second t.few)).exact k h,
      (total_limits a t.first).exact k h,
      (total_limits b t.second).exact k h,
      exact_in_lem a b (k / 5) (k % 5) (omega arith) (omega arith),
    )

both : (a b : Run) → join_number a b ≡ 0 → Both a b (join_run a b)
unfolding joined with_totals added_up
both a b z =
    rw (← run_joined a b z)
    (record { trip = refl; x = refl; count = refl; km = km_in_lem a b; sums = sum_in a b; totals = stored_in a b z })

shaped_join : (a b : Run) → Shaped a → Shaped (join_run a b)
unfolding join_run joined with_totals added_up
shaped_join a b s = by (eqb (join_number a b) 0)
  where
    by : (t : Bool) → Shaped (cond t (joined a b) a)
    by true =
        record {
          xs = s.xs;
          kms = tab_length (km_joined a b) 3;
          grams = tab_length (grams_joined a b) 60;
          rests = tab_length (rest_joined a b) 60;
          total_grams = tab_length _ 15;
          total_rests = tab_length _ 15;
        }
    by false = s

-- ---- the runs of areas

module _ (numbers : List ℕ) (order : numbers_in_order numbers ≡ true) where
  area_run_lem : (i : ℕ) → i < 16 → area_run numbers i ≡ (areas_of numbers).runs i
  area_run_lem i h = sym (run_given numbers i order (omega arith)).1

  of_areas : (n : ℕ) → n < 15 → join_number (joined_to (area_run numbers) n) (area_run numbers (suc n)) ≡ 0
  of_areas =
      let ok = areas_ok numbers order in
      all_taken (area_run numbers) 15 (λ i h. rw (area_run_lem i (omega arith)) (run_ok (areas_of numbers) ok i (omega arith)))
      (λ i h. rw (area_run_lem 0 (omega arith), area_run_lem i (omega arith)) (head_ok (areas_of numbers) ok i (omega arith)))
      (rw (sum_alike (λ i. (area_run numbers i).count) (counts_of (areas_of numbers)) 16 (λ i h. ap (λ r. r.count) (area_run_lem i h))) (records_most (areas_of numbers) ok))

pub whole : JoinClaim
whole =
    record {
      numbers = numbers;
      refused = refused;
      taken = both;
      ordered = order_kept;
      shaped = shaped_join;
      same_number = same_number;
      commutative = commutative;
      associative = associative;
      neutral = neutral;
      several = all_taken;
      areas = of_areas;
    }
