-- Laws of the cold starts: ranges of B, Q, X and the cold factor, and its distance from the factor without rounding.
-- Assumes nothing.
use mathlib.Core.Path.{◌≡◌, refl, sym, ap, ◌∙◌, subst}
use mathlib.Core.Bool.{Bool, true, false, cond, ◌&&◌}
use mathlib.Core.List.{List, []}
use Prim.Native.Nat.{ℕ, zero, suc, ◌+◌, ◌*◌, ◌-◌, ◌/◌, ◌%◌, ◌≤◌, ◌<◌}
use native.Mathlib.Nat.{mul_assoc, mul-le-mul_left, mul-le-mul_right, mul-le-mul}
use native.Mathlib.Numerals.{add-one}
use native.Mathlib.Omega.{arith}
use borrow.Author.Tests.{lt-ltb, ltb-true, ltb-false}
use lib.Dec.{T, eqb, eqb→eq, ltb, leb, leb→le, le→leb, ltb→lt, lit<}
use lib.IntN.{ℤ, pos, negsuc, neg_ℤ, nat_abs, sub_ℕ, neg_ℤ-neg_ℤ, ◌+ℤ◌, ◌-ℤ◌, ◌*ℤ◌}
use lib.ListN.{get_or}
use lib.Signed.{lt_z, le_z, le_z_yes, ◌≤ℤ◌}
use mir.Syntax.{w64}
use mir.Val.{SFits, to_z, of_z}
use mir.Facts.{to_z-of_z}
use Rattle.std.specs.Int.{int_max}
use Rattle.units.specs.Lists.{tab, sum_to, all_below}
use Rattle.units.specs.Rounding.{half_up}
use Rattle.units.specs.Sizes.{Within}
use Rattle.units.proofs.Tab.{tab_at, tab_alike}
use Rattle.units.proofs.Sums.{sum_alike}
use Rattle.units.proofs.Tests.{computed, and_left, and_right, T_true, true_T}
use Rattle.units.proofs.Rounds as rounds
use Rattle.units.proofs.Signed.{Step, arg}
use Rattle.classes.specs.Classes.{fuel_of, has_own_x, beta_reduction, x_count, x_place}
use Rattle.classes.proofs.Classes.{fuel_below, fuel_3, own}
use Rattle.calendar.specs.declared.Period.{Period}
use Rattle.calendar.specs.Periods.{TakenPeriod, month_weight, period_weight}
use Rattle.calendar.proofs.Periods.{whole_weight, weight_positive}
use Rattle.coldstart.specs.ColdStart.{temperature_ok, cold_share, Slope, slope, slopes, pairs, SlopeLimits, cold_ratio, or_zero, cold_excess, month_product, month_at, cold_sum, cold_x, cold_factor, Climate, SmallSums, with_month, cold_denominator, x_denominator, x_from, x_most, cold_values, x_of_sums}

-- ---- differences of whole numbers

cond_pos : (t : Bool) (a b : ℕ) → (T t → a < b) → b ≤ a → cond t (negsuc (b - suc a)) (pos (a - b)) ≡ pos (a - b)
cond_pos true a b h l = let k : a < b = h tt in absurd (omega arith)
cond_pos false a b h l = refl

sub_pos : (a b : ℕ) → b ≤ a → pos a -ℤ pos b ≡ pos (a - b)
sub_pos a zero h = ap pos (omega arith)
sub_pos a (suc b) h = cond_pos (ltb a (suc b)) a (suc b) (ltb→lt a (suc b)) h

cond_zero : (t : Bool) (a b : ℕ) → (T t → a < b) → or_zero (cond t (negsuc (b - suc a)) (pos (a - b))) ≡ a - b
cond_zero true a b h = let k : a < b = h tt in omega arith
cond_zero false a b h = refl

sub_zero : (a b : ℕ) → or_zero (sub_ℕ a b) ≡ a - b
sub_zero a b = cond_zero (ltb a b) a b (ltb→lt a b)

or_zero_sub : (z : ℤ) (b : ℕ) → or_zero (z -ℤ pos b) ≡ or_zero z - b
or_zero_sub (pos a) zero = omega arith
or_zero_sub (pos a) (suc b) = sub_zero a (suc b)
or_zero_sub (negsuc a) zero = sub_zero 0 (suc a) ∙ omega arith
or_zero_sub (negsuc a) (suc b) = omega arith

max_zero : (z : ℤ) → nat_abs (int_max z (pos 0)) ≡ or_zero z
max_zero (pos a) = by a (lt_z (pos 0) (pos a)) refl
  where
    by : (a : ℕ) (t : Bool) → lt_z (pos 0) (pos a) ≡ t → nat_abs (cond t (pos a) (pos 0)) ≡ a
    by a true e = refl
    by a false e = let h : a ≤ 0 = ltb-false 0 a e in omega arith
max_zero (negsuc a) = refl

-- a signed value, cut at 0 and cast
pub cut : {m : ℕ} {x z : ℤ} → Step m x z → (r : ℤ) → SFits w64 r → r ≡ int_max x (pos 0) → nat_abs (to_z w64 (of_z w64 r)) ≡ or_zero z
cut {x = x} {z} s r f e = ap nat_abs (to_z-of_z f ∙ e ∙ ap (λ (y : ℤ). int_max y (pos 0)) s.same) ∙ max_zero z

-- ---- a temperature in range

low_side : (t : ℤ) → temperature_ok t ≡ true → T (le_z (neg_ℤ (pos 300)) t)
unfolding temperature_ok
low_side t e = true_T (le_z (neg_ℤ (pos 300)) t) (and_left (le_z (neg_ℤ (pos 300)) t) (le_z t (pos 400)) e)

high_side : (t : ℤ) → temperature_ok t ≡ true → T (le_z t (pos 400))
unfolding temperature_ok
high_side t e = true_T (le_z t (pos 400)) (and_right (le_z (neg_ℤ (pos 300)) t) (le_z t (pos 400)) e)

pub temperature_size : (t : ℤ) → temperature_ok t ≡ true → Within 400 t
temperature_size (pos n) e = record { size = leb→le n 400 (high_side (pos n) e) }
temperature_size (negsuc n) e = let h : n ≤ 299 = leb→le n 299 (low_side (negsuc n) e) in record { size = omega arith }

-- read back from its bits
pub read : (t : ℤ) → temperature_ok t ≡ true → to_z w64 (of_z w64 t) ≡ t
read t e = (arg tt (temperature_size t e)).same

pub read_ok : (t : ℤ) → temperature_ok t ≡ true → temperature_ok (to_z w64 (of_z w64 t)) ≡ true
read_ok t e = ap temperature_ok (read t e) ∙ e

-- ---- B

-- z is a whole number of at most m
pub record Whole (m : ℕ) (z : ℤ) : Type 0 where
  pub same : z ≡ pos (nat_abs z)
  pub most : nat_abs z ≤ m

is_whole : {n m : ℕ} {z : ℤ} → z ≡ pos n → n ≤ m → Whole m z
is_whole {n} {m} {z} e h = record { same = e ∙ ap pos (sym (ap nat_abs e)); most = subst (λ (k : ℕ). k ≤ m) (sym (ap nat_abs e)) h }

module _ (l : ℕ) (low : 10 ≤ l) (high : l ≤ 200) where
  base : pos 64700000 -ℤ pos 250000 *ℤ pos l ≡ pos (64700000 - 250000 * l)
  base = sub_pos 64700000 (250000 * l) (omega arith)

  fall : pos 97400 -ℤ pos 385 *ℤ pos l ≡ pos (97400 - 385 * l)
  fall = sub_pos 97400 (385 * l) (omega arith)

  -- B with its two whole parts computed first
  pub share_parts : (t : ℤ) → pos (64700000 - 250000 * l) -ℤ pos (97400 - 385 * l) *ℤ t ≡ cold_share l t
  unfolding cold_share
  share_parts t = sym (λ i. base i -ℤ fall i *ℤ t)

  pub share_whole : (t : ℤ) → temperature_ok t ≡ true → Whole 90265000 (cold_share l t)
  unfolding cold_share
  share_whole (pos n) w =
      let k = 97400 - 385 * l in
      let h : k * n ≤ k * 400 = mul-le-mul_left k (leb→le n 400 (high_side (pos n) w)) in
      is_whole ((λ i. base i -ℤ fall i *ℤ pos n) ∙ sub_pos (64700000 - 250000 * l) (k * n) (omega arith)) (omega arith)
  share_whole (negsuc n) w =
      let k = 97400 - 385 * l in
      let h : k * suc n ≤ k * 300 = mul-le-mul_left k (omega (arith, leb→le n 299 (low_side (negsuc n) w))) in
      is_whole ((λ i. base i -ℤ fall i *ℤ negsuc n) ∙ ap (λ (z : ℤ). pos (64700000 - 250000 * l) +ℤ z) (neg_ℤ-neg_ℤ (pos (k * suc n)))) (omega arith)

pub whole_range : (m : ℕ) (z : ℤ) → Whole m z → (pos 0 ≤ℤ z) × (z ≤ℤ pos m)
whole_range m z w = subst (λ (y : ℤ). (pos 0 ≤ℤ y) × (y ≤ℤ pos m)) (sym w.same) (le_z_yes (le→leb 0 (nat_abs z) (omega arith)), le_z_yes (le→leb (nat_abs z) m w.most))

pub wider : {m n : ℕ} {z : ℤ} → Whole m z → m ≤ n → Whole n z
wider w h = record { same = w.same; most = omega (arith, w.most) }

pub month_whole : (l : ℕ) (ts : List ℤ) → Climate l ts → (k : ℕ) → k < 12 → Whole 90265000 (cold_share l (get_or ts k (pos 0)))
month_whole l ts c k h = share_whole l c.trip_low c.trip_high (get_or ts k (pos 0)) (c.temperatures k h)

-- ---- Q

ratio_most : (s : Slope) (t : ℤ) → SlopeLimits s → temperature_ok t ≡ true → or_zero (cold_ratio s t) ≤ 64000
unfolding cold_ratio
ratio_most s (pos n) g w = omega (arith, or_zero_sub (pos s.p) (s.q * n), g.at_zero)
ratio_most s (negsuc n) g w =
    let h : s.q * suc n ≤ s.q * 300 = mul-le-mul_left s.q (omega (arith, leb→le n 299 (low_side (negsuc n) w))) in
    subst (λ (k : ℕ). k ≤ 64000) (sym (ap (λ (z : ℤ). or_zero (pos s.p +ℤ z)) (neg_ℤ-neg_ℤ (pos (s.q * suc n))))) (omega (arith, g.cold))

pub excess_most : (s : Slope) (t : ℤ) → SlopeLimits s → temperature_ok t ≡ true → cold_excess s t ≤ 54000
unfolding cold_excess
excess_most s t g w = omega (arith, or_zero_sub (cold_ratio s t) 10000, ratio_most s t g w)

pub month_most : (l : ℕ) (s : Slope) (t : ℤ) → 10 ≤ l → l ≤ 200 → SlopeLimits s → temperature_ok t ≡ true → month_product l s t ≤ 4874310000000
unfolding month_product
month_most l s t low high g w = mul-le-mul (share_whole l low high t w).most (excess_most s t g w)

-- ---- the table of p and q

unfoldable pub entry : ℕ → Slope
entry i = get_or slopes i (slope 0 0)

-- an entry's pair is read off the table, and the entry is in its limits
entry_rule : ℕ → Bool
entry_rule i =
    (eqb (get_or (get_or (pairs slopes) i []) 0 0) (entry i).p && eqb (get_or (get_or (pairs slopes) i []) 1 0) (entry i).q) &&
    (leb (entry i).p 37000 && (leb (entry i).q 100 && leb ((entry i).p + 300 * (entry i).q) 64000))

every_entry : T (all_below entry_rule 15)
unfolding all_below entry_rule pairs slopes entry
every_entry = tt

module _ (i : ℕ) (h : i < 15) where
  facts : (eqb (get_or (get_or (pairs slopes) i []) 0 0) (entry i).p ≡ true) × (eqb (get_or (get_or (pairs slopes) i []) 1 0) (entry i).q ≡ true) × (leb (entry i).p 37000 ≡ true) × (leb (entry i).q 100 ≡ true) × (leb ((entry i).p + 300 * (entry i).q) 64000 ≡ true)
  unfolding entry_rule
  facts =
      let a = eqb (get_or (get_or (pairs slopes) i []) 0 0) (entry i).p in
      let b = eqb (get_or (get_or (pairs slopes) i []) 1 0) (entry i).q in
      let u = leb (entry i).p 37000 in
      let v = leb (entry i).q 100 in
      let w = leb ((entry i).p + 300 * (entry i).q) 64000 in
      let t = T_true (entry_rule i) (computed entry_rule 15 every_entry i h) in
      let l = and_left (a && b) (u && (v && w)) t in
      let r = and_right (a && b) (u && (v && w)) t in
      let r2 = and_right u (v && w) r in
      (and_left a b l, and_right a b l, and_left u (v && w) r, and_left v w r2, and_right v w r2)

  pub entry_limits : SlopeLimits (entry i)
  entry_limits =
      record {
        at_zero = leb→le (entry i).p 37000 (true_T (leb (entry i).p 37000) facts.2);
        fall = leb→le (entry i).q 100 (true_T (leb (entry i).q 100) facts.3);
        cold = leb→le ((entry i).p + 300 * (entry i).q) 64000 (true_T (leb ((entry i).p + 300 * (entry i).q) 64000) facts.4);
      }

  -- the pair that the code reads is the entry
  pub entry_read : (t : List (List ℕ)) → t ≡ pairs slopes → slope (get_or (get_or t i []) 0 0) (get_or (get_or t i []) 1 0) ≡ entry i
  entry_read t e =
      let a : get_or (get_or (pairs slopes) i []) 0 0 ≡ (entry i).p = eqb→eq (get_or (get_or (pairs slopes) i []) 0 0) (entry i).p (true_T (eqb (get_or (get_or (pairs slopes) i []) 0 0) (entry i).p) facts.0) in
      let b : get_or (get_or (pairs slopes) i []) 1 0 ≡ (entry i).q = eqb→eq (get_or (get_or (pairs slopes) i []) 1 0) (entry i).q (true_T (eqb (get_or (get_or (pairs slopes) i []) 1 0) (entry i).q) facts.1) in
      rw e (λ j. slope (a j) (b j))

-- ---- the sums over months, X and the cold factor

-- the sum of the entry i over the first k months, which weigh w
unfoldable pub sums_to : (ℕ → ℕ) → ℕ → List ℤ → ℕ → ℕ → ℕ
sums_to w l ts k i = sum_to (λ m. w m * month_at l (entry i) ts m) k

module _ (l : ℕ) (ts : List ℤ) (c : Climate l ts) (w : ℕ → ℕ) where
  -- at most 4,874,310,000,000 for each unit of weight
  sums_most : (k i : ℕ) → k ≤ 12 → i < 15 → sums_to w l ts k i ≤ sum_to w k * 4874310000000
  unfolding sums_to
  sums_most k i hk hi =
      rounds.weighed_most w (month_at l (entry i) ts) 4874310000000 k
      (λ m h. month_most l (entry i) (get_or ts m (pos 0)) c.trip_low c.trip_high (entry_limits i hi) (c.temperatures m (omega arith)))

  pub small_sums : ((m : ℕ) → m < 12 → w m ≤ 31) → (k : ℕ) (sums : List ℕ) → k ≤ 12 → sums ≡ tab (sums_to w l ts k) 15 → SmallSums sums
  small_sums light k sums h e =
      record {
        each =
            λ i b.
            rw (e, tab_at 0 (sums_to w l ts k) 15 i b)
            (omega (arith, sums_most k i h b, rounds.sum_most w 31 k (λ m o. light m (omega arith))));
      }

-- one month more
pub sums_more : (w : ℕ → ℕ) (l : ℕ) (ts : List ℤ) (k : ℕ)
    → tab (with_month (tab (sums_to w l ts k) 15) (w k * nat_abs (cold_share l (get_or ts k (pos 0)))) (get_or ts k (pos 0))) 15 ≡ tab (sums_to w l ts (k + 1)) 15
unfolding sums_to entry sum_to with_month month_product
sums_more w l ts k =
    rw add-one
    (tab_alike _ _ 15
    (λ i h.
    rw (tab_at 0 (sums_to w l ts k) 15 i h) (ap (λ n. sum_to (λ m. w m * month_at l (entry i) ts m) k + n) (mul_assoc (w k) _ _))))

-- a month that weighs nothing adds nothing
pub sums_kept : (w : ℕ → ℕ) (l : ℕ) (ts : List ℤ) (k : ℕ) → w k ≡ 0 → tab (sums_to w l ts k) 15 ≡ tab (sums_to w l ts (k + 1)) 15
unfolding sums_to sum_to
sums_kept w l ts k e = rw add-one (tab_alike _ _ 15 (λ i h. rw e (omega arith)))

-- twelve months that weigh what the period says make X
module _ (period : Period) (l : ℕ) (ts : List ℤ) where
  made_x : tab (x_of_sums (period_weight period) (tab (sums_to (month_weight period) l ts 12) 15)) x_count ≡ cold_values period l ts
  unfolding tab sums_to entry x_from cold_x cold_sum
  made_x = refl

  pub sums_x : (w : ℕ → ℕ) → ((k : ℕ) → k < 12 → w k ≡ month_weight period k)
      → tab (x_of_sums (period_weight period) (tab (sums_to w l ts 12) 15)) x_count ≡ cold_values period l ts
  unfolding sums_to
  sums_x w e =
      ap (λ y. tab (x_of_sums (period_weight period) y) x_count)
      (tab_alike (sums_to w l ts 12) (sums_to (month_weight period) l ts 12) 15 (λ i h. sum_alike _ _ 12 (λ k o. ap (λ n. n * month_at l (entry i) ts k) (e k o))))
      ∙ made_x

-- the sum of a fuel and a quantity is at most 4,874,310,000,000 for each unit of the period's weight
pub sum_most : (period : Period) (l : ℕ) (ts : List ℤ) → Climate l ts → TakenPeriod period → (f q : ℕ) → f < 3 → q < 5
    → cold_sum period l ts f q ≤ period_weight period * 4874310000000
unfolding cold_sum sums_to entry
sum_most period l ts c z f q hf hq =
    rw (sym (whole_weight period z)) (sums_most l ts c (month_weight period) 12 (f * 5 + q) (omega arith) (omega arith))

-- X of a fuel and a quantity, and X of CO of class 3
pub x_fuels : (period : Period) (l : ℕ) (ts : List ℤ) (i : ℕ) → i < 15
    → cold_x period l ts i ≡ half_up (cold_sum period l ts (i / 5) (i % 5)) (cold_denominator (period_weight period))
unfolding cold_x x_from
x_fuels period l ts i h = rw (lt-ltb i 15 h)

pub x_class_3 : (period : Period) (l : ℕ) (ts : List ℤ) → cold_x period l ts 15 ≡ half_up (cold_sum period l ts 0 0 * 72) (x_denominator (period_weight period))
unfolding cold_x x_from beta_reduction has_own_x
x_class_3 period l ts = refl

-- each X is at most 4,900,000,000
pub x_most_lem : (period : Period) (l : ℕ) (ts : List ℤ) → Climate l ts → TakenPeriod period → (i : ℕ) → i < x_count → cold_x period l ts i ≤ x_most
x_most_lem period l ts c z i h = go (ltb i 15) refl
  where
    positive : 0 < period_weight period
    positive = weight_positive period z

    go : (b : Bool) → ltb i 15 ≡ b → cold_x period l ts i ≤ x_most
    go true e =
        let b : i < 15 = ltb-true i 15 e in
        rw (x_fuels period l ts i b)
        (rounds.half_up_most (cold_sum period l ts (i / 5) (i % 5)) x_most (cold_denominator (period_weight period)) (omega (arith, positive))
        (omega (arith, sum_most period l ts c z (i / 5) (i % 5) (omega arith) (omega arith))))
    go false e =
        let last : i ≡ 15 = omega (arith, ltb-false i 15 e) in
        rw (last, x_class_3 period l ts)
        (rounds.half_up_most (cold_sum period l ts 0 0 * 72) x_most (x_denominator (period_weight period)) (omega (arith, positive))
        (omega (arith, sum_most period l ts c z 0 0 (omega arith) (omega arith))))

-- 100 hundredths of a sum are rounded as the sum itself
pub hundredths : (s d : ℕ) → half_up s d ≡ half_up (s * 100) (d * 100)
hundredths s d = rounds.half_up_scaled s d 100 (lit< tt)

-- X of a class and a quantity: the sum times the reduction factor, over 100,000 × weight, half up
pub x_of_class : (period : Period) (l : ℕ) (ts : List ℤ) (class quantity : ℕ) → quantity < 5
    → cold_x period l ts (x_place class quantity)
    ≡ half_up (cold_sum period l ts (fuel_of class) quantity * beta_reduction class quantity) (x_denominator (period_weight period))
unfolding x_place beta_reduction
x_of_class period l ts class quantity h = go (has_own_x class quantity) refl
  where
    go : (b : Bool) → has_own_x class quantity ≡ b
        → cold_x period l ts (cond b 15 (fuel_of class * 5 + quantity))
        ≡ half_up (cold_sum period l ts (fuel_of class) quantity * cond b 72 100) (x_denominator (period_weight period))
    go true e = let p = own class quantity e in rw (p.0, p.1, fuel_3) (x_class_3 period l ts)
    go false e =
        let f = fuel_below class in
        let d : (fuel_of class * 5 + quantity) / 5 ≡ fuel_of class = omega arith in
        let m : (fuel_of class * 5 + quantity) % 5 ≡ quantity = omega arith in
        rw (x_fuels period l ts (fuel_of class * 5 + quantity) (omega arith), d, m)
        (hundredths (cold_sum period l ts (fuel_of class) quantity) (cold_denominator (period_weight period)))

pub cold_factor_most : (e x : ℕ) → e ≤ 2000000000 → x ≤ x_most → cold_factor e x ≤ 9800000000
unfolding cold_factor half_up
cold_factor_most e x he hx = omega (arith, rounds.mul_most e x 2000000000 x_most he hx)

-- the cold factor of a rounded X = s / d against the exact one, per kilometre in units of 1 / (d × 10^16) g: at most 1.5 × 10^9 d apart
module _ (e s d : ℕ) (small : e ≤ 2000000000) where
  pub cold_high : cold_factor e (half_up s d) * (1000000000 * d) ≤ e * s + 1500000000 * d
  unfolding cold_factor
  cold_high =
      let x : ℕ = half_up s d in
      let a : (2 * (half_up (e * x) 1000000000 * 1000000000)) * d ≤ (2 * (e * x) + 1000000000) * d = mul-le-mul_right d (rounds.half_up_high (e * x) 1000000000) in
      let b : e * (2 * (x * d)) ≤ e * (2 * s + d) = mul-le-mul_left e (rounds.half_up_high s d) in
      let m : e * d ≤ 2000000000 * d = mul-le-mul_right d small in
      omega arith

  pub cold_low : 0 < d → e * s ≤ cold_factor e (half_up s d) * (1000000000 * d) + 1500000000 * d
  unfolding cold_factor
  cold_low positive =
      let x : ℕ = half_up s d in
      let a : (2 * (e * x)) * d ≤ (2 * (half_up (e * x) 1000000000 * 1000000000) + 1000000000) * d = mul-le-mul_right d (rounds.half_up_low (e * x) 1000000000 (lit< tt)) in
      let b : e * (2 * s) ≤ e * (2 * (x * d) + d) = mul-le-mul_left e (rounds.half_up_low s d positive) in
      let m : e * d ≤ 2000000000 * d = mul-le-mul_right d small in
      omega arith
