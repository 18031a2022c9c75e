-- The numbers of areas after an add to one of them. Assumes nothing.
use mathlib.Core.Path.{◌≡◌, refl, ap, sym, ◌∙◌}
use mathlib.Core.Bool.{Bool, true, false, not}
use mathlib.Core.Logic.{⊎_elim}
use mathlib.Core.List.{List}
use Prim.Native.Nat.{ℕ, ◌*◌, ◌-◌, ◌/◌, ◌%◌, ◌+◌, ◌≤◌, ◌<◌}
use native.Mathlib.Nat.{eq-or-lt_of_le}
use native.Mathlib.Omega.{arith}
use borrow.Rule.Slice.PartMut.{put_mid}
use lib.Dec.{eqb}
use lib.ListN.{length, set, get_or, length-set}
use lib.Seq.{get_or-set_same, get_or-set_other, ext_get_or}
use borrow.Author.Tests.{lt-ltb, eqb-true, eqb-false}
use Rattle.std.specs.Prelude.{Result, IsErrAnd}
use Rattle.units.specs.declared.Refusal.{Refusal}
use Rattle.units.specs.Refusals.{answer_number, refusal_number}
use Rattle.units.proofs.Refusals.{number_positive}
use Rattle.units.proofs.Passed.{passed_up}
use Rattle.units.specs.Lists.{tab}
use Rattle.units.specs.Grounds.{first_fit}
use Rattle.units.proofs.Tab.{tab_at, tab_length}
use Rattle.units.proofs.Tests.{and_left}
use Rattle.inventory.specs.declared.Record.{Record}
use Rattle.inventory.specs.declared.Run.{Run}
use Rattle.inventory.specs.Opening.{given_run}
use Rattle.inventory.specs.Records.{record_grounds}
use Rattle.inventory.specs.Order.{in_order}
use Rattle.inventory.specs.Adding.{run_with}
use Rattle.areas.specs.Areas.{common_after, area_full, area_grounds, with_run, areas_with}
use Rattle.areas.specs.Numbers.{run_at, run_number, areas_of, areas_number, numbers_of}
use Rattle.areas.specs.Calls.{numbers_in_order, add_area_number, add_area_numbers, area_run_number, area_run}
use Rattle.areas.proofs.Numbers.{number_read}
use Rattle.areas.proofs.Order.{size_is, areas_ok, run_ok, count_most, common_most}
use Rattle.areas.proofs.Adding.{area_taken, add_in_turn}
use Rattle.area_runs.proofs.Written.{put_in, put_kept, put_length}

-- ---- one run and the common use written anew

module _ (numbers ys : List ℕ) (area : ℕ) (run : Run) (common : ℕ) (size : length numbers ≡ 2737) (low : area ≤ 15) (put : ys ≡ tab (run_number run) 171) where
  its_size : length ys ≡ 171
  its_size = rw put (tab_length (run_number run) 171)

  -- k is the code's word for 171
  pub still : (k : ℕ) → k ≡ 171 → length (put_mid (area * 171) k numbers ys) ≡ 2737
  still k e = rw (e, put_length (area * 171) 171 numbers ys its_size (omega arith)) size

  part_number : (j : ℕ) → j < 2736 → (b : Bool) → eqb (j / 171) area ≡ b
      → get_or (put_mid (area * 171) 171 numbers ys) j 0 ≡ areas_number (with_run (areas_of numbers) area run common) j
  unfolding areas_number with_run areas_of
  part_number j h true e =
      let q : j / 171 ≡ area = eqb-true (j / 171) area e in
      let p : get_or ys (j % 171) 0 ≡ run_number run (j % 171) = rw put (tab_at 0 (run_number run) 171 (j % 171) (omega arith)) in
      put_in (area * 171) 171 numbers ys its_size (omega arith) j (j % 171) (omega arith) (omega arith) ∙ p ∙ sym (rw (lt-ltb j 2736 h, e))
  part_number j h false e =
      let z : j / 171 * 171 + j % 171 ≡ j = omega arith in
      put_kept (area * 171) 171 numbers ys its_size (omega arith) j (λ x y. eqb-false (j / 171) area e (omega arith))
      ∙ sym (rw (lt-ltb j 2736 h, e) (number_read numbers (j / 171 * 171) (j % 171) (omega arith) ∙ ap (λ k. get_or numbers k 0) z))

  at_end : areas_number (with_run (areas_of numbers) area run common) 2736 ≡ common
  unfolding areas_number with_run
  at_end = refl

  numbers_with : set (put_mid (area * 171) 171 numbers ys) 2736 common ≡ numbers_of (with_run (areas_of numbers) area run common)
  unfolding numbers_of
  numbers_with =
      let m = put_mid (area * 171) 171 numbers ys in
      let F = areas_number (with_run (areas_of numbers) area run common) in
      let len : length m ≡ 2737 = put_length (area * 171) 171 numbers ys its_size (omega arith) ∙ size in
      ext_get_or 0 (set m 2736 common) (tab F 2737) (length-set m 2736 common ∙ len ∙ sym (tab_length F 2737))
      (λ j h.
      let t : j < 2737 = rw (length-set m 2736 common, len) at h in
      ⊎_elim (λ (q : j ≡ 2736). rw q (get_or-set_same m 2736 common 0 (rw len (omega arith)) ∙ sym (tab_at 0 F 2737 2736 (omega arith) ∙ at_end)))
      (λ (q : j < 2736).
      get_or-set_other m 2736 j common 0 (λ z. omega arith) ∙ part_number j q _ refl
      ∙ sym (tab_at 0 F 2737 j t)) (eq-or-lt_of_le (omega arith)))

-- ---- 16, then 17, whatever grounds follow

-- the run where that refuses
pub run_refused : (numbers : List ℕ) (area : ℕ) (answer : Result Run Refusal) (r : Refusal) → IsErrAnd answer (λ y. y ≡ r) → refusal_number r ≡ area_run_number numbers area
    → (answer_number answer ≡ area_run_number numbers area) × (given_run answer ≡ area_run numbers area)
unfolding answer_number given_run area_run
run_refused numbers area answer r is e = rw (passed_up answer r is) (e, rw (← e, number_positive r))

-- ---- the add

-- what a record has that is taken
pub record_own : (count common : ℕ) (rec : Record) → first_fit (area_grounds count common rec) ≡ 0 → first_fit (record_grounds rec) ≡ 0
record_own count common rec z =
    eqb-true _ 0 (and_left (eqb (first_fit (record_grounds rec)) 0) (not (area_full count common)) (sym (area_taken count common rec) ∙ ap (λ n. eqb n 0) z))

module _ (numbers : List ℕ) (area : ℕ) (rec : Record) where
  -- what a question mark hands on: refused, every number stays
  pub refused_kept : {B : Type 0} (answer : Result B Refusal) (r : Refusal) → IsErrAnd answer (λ y. y ≡ r) → refusal_number r ≡ add_area_number numbers area rec
      → (answer_number answer ≡ add_area_number numbers area rec) × (numbers ≡ add_area_numbers numbers area rec)
  unfolding answer_number add_area_numbers
  refused_kept answer r is e = rw (passed_up answer r is) (e, rw (← e, number_positive r))

  module _ (o : numbers_in_order numbers ≡ true) where
    pub common_low : get_or numbers 2736 0 ≤ 200
    unfolding areas_of
    common_low = common_most (areas_of numbers) (areas_ok numbers o)

    module _ (low : area ≤ 15) (run : Run) (e : run ≡ run_at numbers (area * 171)) where
      pub run_order : in_order run ≡ true
      unfolding areas_of
      run_order = rw e (run_ok (areas_of numbers) (areas_ok numbers o) area (omega arith))

      pub run_few : run.count ≤ 500
      unfolding areas_of
      run_few = rw e (count_most (areas_of numbers) (areas_ok numbers o) area (omega arith))

      pub add_room : first_fit (area_grounds run.count (get_or numbers 2736 0) rec) ≡ add_area_number numbers area rec
      unfolding areas_of
      add_room = rw e (add_in_turn numbers area rec o low)

      -- k is the code's word for 171
      pub numbers_added : (k : ℕ) (r : Run) (ys : List ℕ) (count common : ℕ) → k ≡ 171 → r ≡ run_with run rec → ys ≡ tab (run_number r) 171 → count ≡ run.count
          → common ≡ common_after count (get_or numbers 2736 0) → add_area_number numbers area rec ≡ 0
          → set (put_mid (area * 171) k numbers ys) 2736 common ≡ add_area_numbers numbers area rec
      unfolding add_area_numbers areas_with areas_of
      numbers_added k r ys count common q p y n d z =
          rw (q, d, n, z, numbers_with numbers ys area r (common_after run.count (get_or numbers 2736 0)) (size_is numbers o) low y, p, e)
