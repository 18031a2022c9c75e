-- What a run and its reference keep along every history, step by step. Assumes nothing.
use mathlib.Core.Path.{◌≡◌, refl, ap, ◌∙◌}
use mathlib.Core.Bool.{Bool, true, false, cond}
use mathlib.Core.List.{List, [], ◌∷◌}
use Prim.Native.Nat.{ℕ, ◌+◌, ◌≤◌, ◌<◌}
use native.Mathlib.Omega.{arith}
use lib.Dec.{eqb, lit<}
use lib.ListN.{get_or}
use borrow.Author.Tests.{eqb-true, not-false}
use Rattle.units.specs.Fractions.{Fraction, plus}
use Rattle.units.proofs.Fractions.{plus_positive}
use Rattle.classes.specs.Classes.{fuel_of, x_count}
use Rattle.inventory.specs.declared.Head.{Head}
use Rattle.inventory.specs.declared.Record.{Record}
use Rattle.inventory.specs.declared.Run.{Run}
use Rattle.inventory.specs.Records.{vehicle_km}
use Rattle.inventory.specs.Order.{in_order, same_head, km_in, sum_at, place, exact_total}
use Rattle.inventory.specs.Adding.{km_of, with_totals, raised, run_with, add_number, add_run}
use Rattle.inventory.specs.Opening.{empty_run, fresh_run, open_number, open_run}
use Rattle.inventory.proofs.Adding.{add_taken}
use Rattle.inventory.proofs.Fresh.{empty_sum, empty_km, opened_is, fresh_order}
use Rattle.inventory.proofs.Heads.{x_same}
use Rattle.inventory.proofs.Kept.{km_at_lem, sum_with, order_kept}
use Rattle.joins.specs.Joining.{join_number, added_up, joined, join_run}
use Rattle.joins.proofs.Laws.{taken, km_in_lem, exact_in_lem, order_joined}
use Rattle.accuracy.specs.Reference.{exact_of, Reference, acceptable, has_room, accepts, empty, with_record, fed, reference_from, reference_of}
use Rattle.accuracy.specs.Conditions.{head_x, heads_differ, joining_number}
use Rattle.accuracy.specs.Claim.{run_after}
use Rattle.accuracy.specs.History.{History, opened, joins, further, head_of, HeadsTaken, history_run, together, joined_reference, history_reference}
use Rattle.accuracy.proofs.Conditions.{heads_differ_lem, joining}
use Rattle.accuracy.proofs.Near.{Near, near_plus}
use Rattle.accuracy.proofs.OneRecord.{brings, accepted_limits, weight_of_taken, record_near}

-- on a run in order, the add takes exactly the records that the reference accepts
pub takes_accepted : (run : Run) (rec : Record) → in_order run ≡ true → eqb (add_number run rec) 0 ≡ accepts (has_room run.count) rec
unfolding accepts has_room acceptable
takes_accepted run rec o = add_taken run rec o

-- the run has the head's L and X and is in order, and the reference is its own
pub record Measured (head : Head) (run : Run) (t : Reference) : Type 0 where
  pub trip : run.trip ≡ head.trip
  pub x : run.x ≡ head_x head
  pub order : in_order run ≡ true
  pub count : run.count ≡ t.count
  pub km : (fuel : ℕ) → fuel < 3 → km_in run fuel ≡ t.km fuel
  pub positive : (fuel quantity : ℕ) → 0 < (t.exact fuel quantity).denominator
  pub near : (fuel quantity : ℕ) → fuel < 3 → quantity < 5 → Near (exact_total run fuel quantity) (t.exact fuel quantity) (t.km fuel)

-- a total whose four sums are those of two others, added up
total_by : (run : Run) (f g : ℕ → ℕ) (fuel quantity : ℕ) → fuel < 3 → quantity < 5 → ((j : ℕ) → j < 60 → sum_at run j ≡ f j + g j)
    → exact_total run fuel quantity
    ≡ f (place fuel quantity 0) + f (place fuel quantity 1) + f (place fuel quantity 2) + f (place fuel quantity 3)
    + (g (place fuel quantity 0) + g (place fuel quantity 1) + g (place fuel quantity 2) + g (place fuel quantity 3))
unfolding exact_total
total_by run f g fuel quantity a b s =
    let at : (kind : ℕ) → kind < 4 → place fuel quantity kind < 60 = λ kind k. omega arith in
    omega (
      arith,
      s (place fuel quantity 0) (at 0 (lit< tt)),
      s (place fuel quantity 1) (at 1 (lit< tt)),
      s (place fuel quantity 2) (at 2 (lit< tt)),
      s (place fuel quantity 3) (at 3 (lit< tt)),
    )

-- ---- opening

module _ (head : Head) (taken : open_number head ≡ 0) where
  fresh_total : (fuel quantity : ℕ) → fuel < 3 → quantity < 5 → exact_total (fresh_run head) fuel quantity ≡ 0
  unfolding fresh_run
  fresh_total fuel quantity f q = total_by (fresh_run head) (λ j. 0) (λ j. 0) fuel quantity f q (empty_sum head.trip (head_x head))

  fresh_measured : Measured head (fresh_run head) (empty head)
  unfolding fresh_run empty_run empty
  fresh_measured =
      record {
        trip = refl;
        x = refl;
        order = fresh_order head taken;
        count = refl;
        km = empty_km head.trip (head_x head);
        positive = λ fuel quantity. omega (arith, weight_of_taken head taken);
        near = λ fuel quantity f q. rw (fresh_total fuel quantity f q) (record { high = omega arith; low = omega arith });
      }

  open-measured : Measured head (open_run head) (empty head)
  open-measured = rw (opened_is head taken) fresh_measured

-- ---- one add; b says whether the fuel is the record's

km_with : (b : Bool) (n k : ℕ) → n + cond b k 0 ≡ cond b (n + k) n
km_with true n k = refl
km_with false n k = omega arith

positive_with : (b : Bool) (t e : Fraction) → 0 < t.denominator → 0 < e.denominator → 0 < (cond b (plus t e) t).denominator
positive_with true t e p q = plus_positive t e p q
positive_with false t e p q = p

total_with : (run : Run) (rec : Record) (fuel quantity : ℕ) → fuel < 3 → quantity < 5
    → exact_total (run_with run rec) fuel quantity ≡ exact_total run fuel quantity + brings run.x fuel quantity rec
unfolding exact_total brings
total_with run rec fuel quantity f q = total_by (run_with run rec) (sum_at run) _ fuel quantity f q (sum_with run rec)

-- the record is measured by a head of its own, which has the run's X
module _ (head own : Head) (taken : open_number own ≡ 0) (same : (i : ℕ) → i < x_count → get_or (head_x head) i 0 ≡ get_or (head_x own) i 0) where
  with_measured : (run : Run) (t : Reference) (rec : Record) → Measured head run t → accepts (has_room t.count) rec ≡ true
      → in_order (run_with run rec) ≡ true → Measured head (run_with run rec) (with_record own t rec)
  unfolding run_with with_totals raised with_record exact_of km_of
  with_measured run t rec m e o =
      record {
        trip = m.trip;
        x = m.x;
        order = o;
        count = omega (arith, m.count);
        km = λ fuel f. km_at_lem run rec fuel f ∙ rw (m.km fuel f) (km_with (eqb fuel (fuel_of rec.class)) (t.km fuel) (vehicle_km rec));
        positive =
            λ fuel quantity.
            positive_with (eqb fuel (fuel_of rec.class)) (t.exact fuel quantity) (exact_of own rec quantity) (m.positive fuel quantity) (omega (arith, weight_of_taken own taken));
        near =
            λ fuel quantity f q.
            rw (total_with run rec fuel quantity f q)
            (record_near own (weight_of_taken own taken) run.x (rw m.x same) fuel quantity _ _ _ rec q (accepted_limits (has_room t.count) rec e) (m.near fuel quantity f q));
      }

  add_measured : (run : Run) (t : Reference) (rec : Record) → Measured head run t → Measured head (add_run run rec) (fed own t rec)
  unfolding add_run fed
  add_measured run t rec m = rw takes (by (accepts (has_room t.count) rec) refl (rw takes at (order_kept run rec m.order)))
    where
      takes : eqb (add_number run rec) 0 ≡ accepts (has_room t.count) rec
      takes = takes_accepted run rec m.order ∙ ap (λ n. accepts (has_room n) rec) m.count

      by : (b : Bool) → accepts (has_room t.count) rec ≡ b → in_order (cond b (run_with run rec) run) ≡ true
          → Measured head (cond b (run_with run rec) run) (cond b (with_record own t rec) t)
      by true e o = with_measured run t rec m e o
      by false e o = m

  after_measured : (recs : List Record) (run : Run) (t : Reference) → Measured head run t → Measured head (run_after run recs) (reference_from own t recs)
  unfolding run_after reference_from
  after_measured [] run t m = m
  after_measured (rec ∷ recs) run t m = after_measured recs (add_run run rec) (fed own t rec) (add_measured run t rec m)

-- ---- a join

module _ (first second : Head) (a b : Run) (s t : Reference) (m : Measured first a s) (n : Measured second b t) where
  -- 16 fits neither run, so heads and counts decide
  pub join_number_lem : join_number a b ≡ joining_number first second s.count t.count
  join_number_lem = rw (← m.count, ← n.count) (joining a b first second m.trip m.x n.trip n.x m.order n.order)

  both_measured : a.count + b.count ≤ 5000 → Measured first (joined a b) (together s t)
  unfolding joined with_totals added_up together
  both_measured few =
      record {
        trip = m.trip;
        x = m.x;
        order = order_joined a b m.order n.order few;
        count = omega (arith, m.count, n.count);
        km = λ fuel f. omega (arith, km_in_lem a b fuel f, m.km fuel f, n.km fuel f);
        positive = λ fuel quantity. plus_positive _ _ (m.positive fuel quantity) (n.positive fuel quantity);
        near = λ fuel quantity f q. rw (exact_in_lem a b fuel quantity f q) (near_plus _ _ _ _ _ _ (m.near fuel quantity f q) (n.near fuel quantity f q));
      }

  join_measured : Measured first (join_run a b) (joined_reference first second s t)
  unfolding join_run joined_reference
  join_measured = rw join_number_lem (by (eqb (joining_number first second s.count t.count) 0) refl)
    where
      by : (z : Bool) → eqb (joining_number first second s.count t.count) 0 ≡ z → Measured first (cond z (joined a b) a) (cond z (together s t) s)
      by true e = both_measured (taken a b (join_number_lem ∙ eqb-true _ 0 e)).few
      by false e = m

-- ---- every history

-- heads that do not differ have one X
x_of_heads : (p q : Head) → heads_differ p q ≡ false → (i : ℕ) → i < x_count → get_or (head_x p) i 0 ≡ get_or (head_x q) i 0
unfolding fresh_run empty_run
x_of_heads p q e =
    x_same (fresh_run p) (fresh_run q) (not-false (same_head (fresh_run p) (fresh_run q)) (heads_differ_lem (fresh_run p) (fresh_run q) p q refl refl refl refl ∙ e))

pub measured : (h : History) → HeadsTaken h → Measured (head_of h) (history_run h) (history_reference h)
unfolding head_of history_run history_reference reference_of
measured (opened head recs) ok = after_measured head head ok (λ i h. refl) recs (open_run head) (empty head) (open-measured head ok)
measured (joins a b) ok =
    join_measured (head_of a) (head_of b) (history_run a) (history_run b) (history_reference a) (history_reference b) (measured a ok.0) (measured b ok.1)
measured (further a head recs) ok =
    after_measured (head_of a) head ok.1 (x_of_heads (head_of a) head ok.2) recs (history_run a) (history_reference a) (measured a ok.0)

-- the head whose L and X the run has is one that opening takes
pub head_taken : (h : History) → HeadsTaken h → open_number (head_of h) ≡ 0
unfolding head_of
head_taken (opened head recs) ok = ok
head_taken (joins a b) ok = head_taken a ok.0
head_taken (further a head recs) ok = head_taken a ok.0
