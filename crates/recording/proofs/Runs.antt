-- The number and the run of opening and of an add, from the verdict on the head or the record. Assumes nothing.
use mathlib.Core.Path.{◌≡◌, refl, sym, ◌∙◌}
use mathlib.Core.Bool.{Bool, true, false, cond}
use mathlib.Core.List.{List, []}
use Prim.Native.Nat.{ℕ, ◌+◌, ◌*◌, ◌/◌, ◌≤◌, ◌<◌}
use native.Mathlib.Omega.{arith}
use lib.Dec.{eqb, leb}
use borrow.Author.Tests.{lt-leb, le-leb, leb-false, eqb-true, eqb-false}
use Rattle.units.specs.declared.Refusal.{Refusal}
use Rattle.units.specs.Grounds.{first_fit}
use Rattle.std.specs.Prelude.{Result, Ok, Err, IsErrAnd}
use Rattle.units.specs.Refusals.{refusal_number, answer_number}
use Rattle.units.proofs.Passed.{passed_up}
use Rattle.units.proofs.Refusals.{number_positive, taken_number, refused_number}
use Rattle.classes.specs.Classes.{fuel_of}
use Rattle.coldstart.specs.ColdStart.{cold_values}
use Rattle.inventory.specs.declared.Head.{Head}
use Rattle.inventory.specs.declared.Record.{Record}
use Rattle.inventory.specs.declared.Run.{Run}
use Rattle.inventory.specs.Records.{head_grounds, record_grounds}
use Rattle.inventory.specs.Order.{sum_at, exact_total, in_order}
use Rattle.inventory.specs.Limits.{RecordLimits, RunLimits}
use Rattle.inventory.proofs.Kept.{total_other, order_with, order_kept}
use Rattle.inventory.proofs.Order.{run_limits, total_of_lem}
use Rattle.inventory.proofs.Records.{record_then}
use Rattle.inventory.proofs.Runs.{limits_before}
use Rattle.inventory.specs.Opening.{empty_run, fresh_run, zero_run, open_number, open_run, given_run}
use Rattle.inventory.specs.Adding.{slot_after, km_after, total_made, with_totals, raised, run_with, ordered_grounds, raised_run, add_grounds, add_number, add_run}
use Rattle.kilometres.specs.Parts.{with_km}
use Rattle.sums.specs.Parts.{with_sums}
use Rattle.run_totals.specs.Between.{KeptOutside}
use Rattle.accuracy.specs.Claim.{run_after, EveryList}
use Rattle.accuracy.proofs.Whole.{every_list}

-- ---- opening

module _ (head : Head) where
  -- the number of the first ground is the number of opening
  pub open_by : (n : ℕ) → n ≡ first_fit (head_grounds head) → n ≡ open_number head
  unfolding open_number
  open_by n e = e

  -- the answer that passes up the refusal of the head
  module _ {A : Type 0} (v : Result A Refusal) (h : answer_number v ≡ first_fit (head_grounds head)) where
    refused_as : (r : Refusal) → v ≡ Err r → open_number head ≡ refusal_number r
    unfolding open_number
    refused_as r e = refused_number v r _ e h

    module _ (answer : Result Run Refusal) (r : Refusal) (is : IsErrAnd answer (λ y. y ≡ r)) (e : v ≡ Err r) where
      pub open_passed : answer_number answer ≡ open_number head
      unfolding answer_number
      open_passed = rw (passed_up answer r is) (sym (refused_as r e))

      pub zeros_passed : given_run answer ≡ open_run head
      unfolding given_run open_run
      zeros_passed = rw (passed_up answer r is, refused_as r e, number_positive r)

      pub none_opened : answer_number answer ≡ 0 → EveryList head
      none_opened z = every_list head (sym open_passed ∙ z)

    pub opened_ok : (x : A) → v ≡ Ok x → open_number head ≡ 0
    unfolding open_number
    opened_ok x e = taken_number v x _ e h

  -- the run of a head that is taken
  pub run_opened : open_number head ≡ 0 → fresh_run head ≡ open_run head
  unfolding open_run
  run_opened e = rw e

  -- a run that opening gave is in order
  pub opened_order : open_number head ≡ 0 → in_order (open_run head) ≡ true
  unfolding run_after
  opened_order z = ((every_list head z).list []).ordered

-- the fresh run, made from the run of zeros
pub fresh_made : (head : Head) (z : Run) (xs : List ℕ) → z ≡ zero_run → xs ≡ cold_values head.period head.trip head.temps
    → ◌≡◌ {A = Run}
    (record {
      trip = head.trip;
      x = xs;
      count = z.count;
      km = z.km;
      grams = z.grams;
      rests = z.rests;
      total_grams = z.total_grams;
      total_rests = z.total_rests;
    })
    (fresh_run head)
unfolding fresh_run zero_run empty_run
fresh_made head z xs e h = rw (e, h)

-- ---- adding

module _ (count : ℕ) (rec : Record) where
  -- on a run in order the record's own grounds come first, then 9
  in_turn : first_fit (ordered_grounds count rec) ≡ cond (eqb (first_fit (record_grounds rec)) 0) (cond (leb 5000 count) 9 0) (first_fit (record_grounds rec))
  in_turn = record_then rec 9 (leb 5000 count)

  module _ {A : Type 0} (v : Result A Refusal) (h : answer_number v ≡ first_fit (record_grounds rec)) where
    pub add_refused : (r : Refusal) → v ≡ Err r → refusal_number r ≡ first_fit (ordered_grounds count rec)
    add_refused r e = rw (in_turn, refused_number v r _ e h, number_positive r)

    pub add_passed : {B : Type 0} (answer : Result B Refusal) (r : Refusal) → IsErrAnd answer (λ y. y ≡ r) → v ≡ Err r
        → answer_number answer ≡ first_fit (ordered_grounds count rec)
    unfolding answer_number
    add_passed answer r is e = rw (passed_up answer r is) (add_refused r e)

    pub add_full : (x : A) → v ≡ Ok x → 5000 ≤ count → 9 ≡ first_fit (ordered_grounds count rec)
    add_full x e n = rw (in_turn, taken_number v x _ e h, le-leb 5000 count n)

    pub add_good : (x : A) → v ≡ Ok x → count < 5000 → 0 ≡ first_fit (ordered_grounds count rec)
    add_good x e n = rw (in_turn, taken_number v x _ e h, lt-leb 5000 count n)

module _ (run : Run) (rec : Record) where
  pub add_unordered : in_order run ≡ false → 16 ≡ add_number run rec
  unfolding add_number add_grounds first_fit
  add_unordered o = rw o

  pub add_ordered : in_order run ≡ true → first_fit (ordered_grounds run.count rec) ≡ add_number run rec
  unfolding add_number add_grounds first_fit
  add_ordered o = rw o

  -- what an add has that is taken
  pub record Ready : Type 0 where
    pub order : in_order run ≡ true
    pub own : first_fit (record_grounds rec) ≡ 0
    pub room : run.count < 5000

  ready_by : (a b : Bool) (n : ℕ) → eqb n 0 ≡ a → cond a (cond b 9 0) n ≡ 0 → (n ≡ 0) × (b ≡ false)
  ready_by true true n e z = absurd (omega arith)
  ready_by true false n e z = (eqb-true n 0 e, refl)
  ready_by false b n e z = absurd (eqb-false n 0 e z)

  order_by : (o : Bool) → in_order run ≡ o → add_number run rec ≡ 0 → in_order run ≡ true
  order_by true e z = e
  order_by false e z = let y : ◌≡◌ {A = ℕ} 16 0 = add_unordered e ∙ z in absurd (omega arith)

  pub ready : add_number run rec ≡ 0 → Ready
  ready z =
      let o = order_by (in_order run) refl z in
      let p = ready_by (eqb (first_fit (record_grounds rec)) 0) (leb 5000 run.count) (first_fit (record_grounds rec)) refl (sym (in_turn run.count rec) ∙ add_ordered o ∙ z) in
      record { order = o; own = p.0; room = leb-false 5000 run.count p.1 }

  -- what making the totals of the record's fuel asks for
  module _ (order : in_order run ≡ true) where
    pub raised_limits : RecordLimits rec → run.count < 5000 → RunLimits (raised run rec)
    unfolding run_with
    raised_limits lim room = limits_before (raised run rec) (run_limits (run_with run rec) (order_with run rec order lim room))

    pub others_kept : (fuel : ℕ) → fuel ≡ fuel_of rec.class → KeptOutside (raised run rec) (fuel * 5) (fuel * 5 + 5)
    others_kept fuel e =
        record { kept = λ k h o. total_other run rec k h (λ z. let y : k / 5 ≡ fuel = z ∙ sym e in o (omega arith) (omega arith)) (total_of_lem run order k h) }

  pub run_kept : (n : ℕ) → n ≡ add_number run rec → eqb n 0 ≡ false → run ≡ add_run run rec
  unfolding add_run
  run_kept n e h = rw (← e, h)

  pub run_added : add_number run rec ≡ 0 → run_with run rec ≡ add_run run rec
  unfolding add_run
  run_added e = rw e

-- ---- adding where the totals are made later

-- a run with a record in its sums, then in its kilometres, then in its count
pub raised_parts : (old : Run) (rec : Record) (a b : Run) → a ≡ with_sums old rec → b ≡ with_km a rec → record b { count = b.count + 1 } ≡ raised old rec
unfolding raised km_after
raised_parts old rec a b e f = rw (f, e)

module _ (run : Run) (rec : Record) where
  -- the totals of a run do not count in what an add does to the rest
  pub raised_first : with_totals (raised run rec) ≡ run_with (with_totals run) rec
  unfolding run_with with_totals raised total_made exact_total sum_at slot_after km_after
  raised_first = refl

  pub raised_taken : first_fit (ordered_grounds run.count rec) ≡ 0 → raised run rec ≡ raised_run run rec
  unfolding raised_run
  raised_taken z = rw z

  pub raised_refused : (n : ℕ) → n ≡ first_fit (ordered_grounds run.count rec) → eqb n 0 ≡ false → run ≡ raised_run run rec
  unfolding raised_run
  raised_refused n e h = rw (← e, h)

  module _ (order : in_order (with_totals run) ≡ true) where
    pub raised_number : first_fit (ordered_grounds run.count rec) ≡ add_number (with_totals run) rec
    unfolding with_totals
    raised_number = add_ordered (with_totals run) rec order

    by : (b : Bool) → eqb (first_fit (ordered_grounds run.count rec)) 0 ≡ b
        → with_totals (cond b (raised run rec) run) ≡ cond b (run_with (with_totals run) rec) (with_totals run)
    by true e = raised_first
    by false e = refl

    pub raised_added : with_totals (raised_run run rec) ≡ add_run (with_totals run) rec
    unfolding raised_run add_run
    raised_added = rw (← raised_number) (by (eqb (first_fit (ordered_grounds run.count rec)) 0) refl)

    pub raised_order : in_order (with_totals (raised_run run rec)) ≡ true
    raised_order = rw raised_added (order_kept (with_totals run) rec order)
