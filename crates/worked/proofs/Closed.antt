-- The reference and the totals of a list of adds, in closed form over the accepted records: for lists too long to compute. Assumes nothing.
use mathlib.Core.Path.{◌≡◌, refl, ap, ◌∙◌}
use mathlib.Core.Bool.{Bool, true, false, cond}
use mathlib.Core.List.{List, [], ◌∷◌}
use Prim.Native.Nat.{ℕ, ◌+◌, ◌<◌}
use native.Mathlib.Omega.{arith}
use lib.Dec.{eqb, lit<}
use lib.ListN.{length}
use Rattle.units.specs.Fractions.{Fraction, over, plus}
use Rattle.units.proofs.Fractions.{plus_same}
use Rattle.classes.specs.Classes.{fuel_of}
use Rattle.inventory.specs.declared.Head.{Head}
use Rattle.inventory.specs.declared.Record.{Record}
use Rattle.inventory.specs.Records.{vehicle_km}
use Rattle.inventory.specs.Order.{sum_at, place, exact_total}
use Rattle.inventory.specs.Adding.{km_of}
use Rattle.accuracy.specs.Reference.{exact_denominator, exact_of, Reference, has_room, accepts, empty, with_record, fed, reference_from, reference_of, accepted_from, accepted}
use Rattle.accuracy.proofs.Sums.{sum_of}
use Rattle.accuracy.proofs.OneRecord.{brings}
use Rattle.accuracy.proofs.Closed.{slot_sum, km_sum, closed, sum_closed}

-- what a record brings to the exact numerator
unfoldable pub exact_in : Head → ℕ → ℕ → Record → ℕ
exact_in head fuel quantity rec = cond (eqb fuel (fuel_of rec.class)) (exact_of head rec quantity).numerator 0

-- ---- the reference in closed form

-- t' is t with the records of l in it
record Grown (head : Head) (l : List Record) (t t' : Reference) : Type 0 where
  count : t'.count ≡ t.count + length l
  km : (fuel : ℕ) → t'.km fuel ≡ t.km fuel + km_sum l fuel
  exact : (fuel quantity n : ℕ) → t.exact fuel quantity ≡ over n (exact_denominator head)
      → t'.exact fuel quantity ≡ over (n + sum_of (exact_in head fuel quantity) l) (exact_denominator head)

-- one record: b says whether the fuel is the record's
km_with : (b : Bool) (n k : ℕ) → cond b (n + k) n ≡ n + cond b k 0
km_with true n k = refl
km_with false n k = omega arith

exact_with : (b : Bool) (t : Fraction) (n m d : ℕ) → t ≡ over n d → cond b (plus t (over m d)) t ≡ over (n + cond b m 0) d
exact_with true t n m d e = rw e (plus_same n m d)
exact_with false t n m d e = e ∙ ap (λ k. over k d) (omega arith)

grown : (head : Head) (recs : List Record) (t : Reference) → Grown head (accepted_from t.count recs) t (reference_from head t recs)
unfolding reference_from accepted_from fed with_record sum_of km_sum exact_in exact_of km_of
grown head [] t =
    record { count = omega arith; km = λ fuel. omega arith; exact = λ fuel quantity n e. e ∙ ap (λ k. over k (exact_denominator head)) (omega arith) }
grown head (rec ∷ recs) t = go (accepts (has_room t.count) rec) (grown head recs (with_record head t rec)) (grown head recs t)
  where
    go : (b : Bool) → Grown head (accepted_from (t.count + 1) recs) (with_record head t rec) (reference_from head (with_record head t rec) recs)
        → Grown head (accepted_from t.count recs) t (reference_from head t recs)
        → Grown head (cond b (rec ∷ accepted_from (t.count + 1) recs) (accepted_from t.count recs)) t (reference_from head (cond b (with_record head t rec) t) recs)
    go true x y =
        record {
          count = omega (arith, x.count);
          km = λ fuel. omega (arith, x.km fuel, km_with (eqb fuel (fuel_of rec.class)) (t.km fuel) (vehicle_km rec));
          exact =
              λ fuel quantity n e.
              x.exact fuel quantity (n + exact_in head fuel quantity rec)
              (exact_with (eqb fuel (fuel_of rec.class)) (t.exact fuel quantity) n (exact_of head rec quantity).numerator (exact_denominator head) e)
              ∙ ap (λ k. over k (exact_denominator head)) (omega arith);
        }
    go false x y = y

module _ (head : Head) (recs : List Record) where
  pub reference_count : (reference_of head recs).count ≡ length (accepted recs)
  unfolding reference_of empty accepted
  reference_count = omega (arith, (grown head recs (empty head)).count)

  pub reference_km : (fuel : ℕ) → (reference_of head recs).km fuel ≡ km_sum (accepted recs) fuel
  unfolding reference_of empty accepted
  reference_km fuel = omega (arith, (grown head recs (empty head)).km fuel)

  pub reference_exact : (fuel quantity : ℕ) → (reference_of head recs).exact fuel quantity ≡ over (sum_of (exact_in head fuel quantity) (accepted recs)) (exact_denominator head)
  unfolding reference_of empty accepted
  reference_exact fuel quantity =
      (grown head recs (empty head)).exact fuel quantity 0 refl ∙ ap (λ k. over k (exact_denominator head)) (omega arith)

-- ---- the totals in closed form

-- what the records bring to the four kinds
four_sums : (xs : List ℕ) (fuel quantity : ℕ) (l : List Record)
    → slot_sum xs l (place fuel quantity 0) + slot_sum xs l (place fuel quantity 1) + slot_sum xs l (place fuel quantity 2) + slot_sum xs l (place fuel quantity 3)
    ≡ sum_of (brings xs fuel quantity) l
unfolding slot_sum sum_of brings
four_sums xs fuel quantity [] = refl
four_sums xs fuel quantity (rec ∷ l) = omega (arith, four_sums xs fuel quantity l)

pub total_closed : (trip : ℕ) (xs : List ℕ) (l : List Record) (fuel quantity : ℕ) → fuel < 3 → quantity < 5
    → exact_total (closed trip xs l) fuel quantity ≡ sum_of (brings xs fuel quantity) l
unfolding exact_total
total_closed trip xs l fuel quantity f q =
    let at : (kind : ℕ) → kind < 4 → sum_at (closed trip xs l) (place fuel quantity kind) ≡ slot_sum xs l (place fuel quantity kind) =
    λ kind k. sum_closed trip xs l (place fuel quantity kind) (omega arith) in
    rw (at 0 (lit< tt), at 1 (lit< tt), at 2 (lit< tt), at 3 (lit< tt)) (four_sums xs fuel quantity l)
