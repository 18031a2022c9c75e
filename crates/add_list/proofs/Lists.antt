-- A list of adds that grows at its end, and what is said of a list. Assumes nothing.
use mathlib.Core.Path.{◌≡◌, refl, sym, ap, ◌∙◌}
use mathlib.Core.Bool.{Bool, true, false, not, cond, ◌&&◌}
use mathlib.Core.List.{List, [], ◌∷◌, ◌++◌}
use Prim.Native.Nat.{ℕ, zero, suc, ◌+◌, ◌*◌, ◌/◌, ◌%◌, ◌≤◌, ◌<◌}
use native.Mathlib.Numerals.{add-one}
use native.Mathlib.Omega.{arith}
use borrow.Author.Tests.{eq-eqb, ne_eqb}
use lib.Dec.{eqb}
use lib.ListN.{length, drop, get_or, length-append, length-drop, get_or-append}
use lib.Seq.{drop_at, drop-drop, get_or-drop}
use Rattle.units.specs.Grounds.{first_fit}
use Rattle.inventory.specs.declared.Head.{Head}
use Rattle.inventory.specs.declared.Record.{Record}
use Rattle.inventory.specs.declared.Run.{Run}
use Rattle.inventory.specs.Opening.{zero_run, open_number, open_run}
use Rattle.inventory.specs.Adding.{add_number, add_run, with_totals}
use Rattle.accuracy.specs.Claim.{run_after}
use Rattle.accuracy.proofs.Closed.{closed}
use Rattle.accuracy.proofs.Whole.{after}
use Rattle.std.specs.Prelude.{Option, Some, None}
use Rattle.std.specs.Option.{option_or}
use Rattle.units.specs.declared.Refusal.{Refusal}
use Rattle.units.specs.Refusals.{refusal_number}
use Rattle.units.proofs.Refusals.{number_positive}
use Rattle.add_list.specs.declared.FirstRefused.{FirstRefused}
use Rattle.list_records.specs.Record.{record_at}
use Rattle.add_list.specs.Records.{first_records, records_of}
use Rattle.add_list.specs.Answer.{list_grounds, list_number, RefusedAt, refused_as, refused_at, first_refused, list_run, list_taken, list_first}

-- ---- the run and the first refused record, with one record more

-- places count from 1
abbrev pub IsPlaced : Option FirstRefused → Type 0
IsPlaced None = Unit
IsPlaced (Some first) = 1 ≤ first.place

pub placed_or : (first : Option FirstRefused) (i : ℕ) (reason : Refusal) → IsPlaced first → IsPlaced (option_or first (Some (record { place = i + 1; reason = reason })))
placed_or None i reason h = omega arith
placed_or (Some first) i reason h = h

-- the first refused one with the number of the record at a place
unfoldable pub noted : RefusedAt → ℕ → ℕ → RefusedAt
noted first place number = cond (eqb first.place 0 && not (eqb number 0)) (refused_as place number) first

-- as the code keeps it
pub noted_or : (first : Option FirstRefused) (place : ℕ) (reason : Refusal) → IsPlaced first
    → refused_at (option_or first (Some (record { place = place; reason = reason }))) ≡ noted (refused_at first) place (refusal_number reason)
unfolding noted
noted_or None place reason h = rw (number_positive reason)
noted_or (Some first) place reason h = rw (ne_eqb first.place 0 (λ z. absurd (omega (arith, h))))

after_snoc : (run : Run) (l : List Record) (rec : Record) → run_after run (l ++ (rec ∷ [])) ≡ add_run (run_after run l) rec
unfolding run_after
after_snoc run [] rec = refl
after_snoc run (b ∷ l) rec = after_snoc (add_run run b) l rec

first_snoc : (run : Run) (place : ℕ) (l : List Record) (rec : Record) → 1 ≤ place
    → first_refused run place (l ++ (rec ∷ [])) ≡ noted (first_refused run place l) (place + length l) (add_number (run_after run l) rec)
unfolding first_refused run_after noted
first_snoc run place [] rec h = by (eqb (add_number run rec) 0)
  where
    here : place + 0 ≡ place
    here = omega arith

    by : (b : Bool) → cond b (refused_as 0 0) (refused_as place (add_number run rec)) ≡ cond (not b) (refused_as (place + 0) (add_number run rec)) (refused_as 0 0)
    by true = refl
    by false = rw here
first_snoc run place (b ∷ l) rec h = by (eqb (add_number run b) 0) (first_snoc (add_run run b) (place + 1) l rec (omega arith))
  where
    later : RefusedAt
    later = first_refused (add_run run b) (place + 1) l

    number : ℕ
    number = add_number (run_after (add_run run b) l) rec

    same : place + 1 + length l ≡ place + length (b ∷ l)
    same = omega arith

    by : (t : Bool) → first_refused (add_run run b) (place + 1) (l ++ (rec ∷ [])) ≡ noted later (place + 1 + length l) number
        → cond t (first_refused (add_run run b) (place + 1) (l ++ (rec ∷ []))) (refused_as place (add_number run b))
        ≡ noted (cond t later (refused_as place (add_number run b))) (place + length (b ∷ l)) number
    by true again = again ∙ ap (λ (n : ℕ). noted later n number) same
    by false again = rw (ne_eqb place 0 (λ z. absurd (omega arith)))

-- a record that is taken changes no first refused one
pub none_noted : (seen : RefusedAt) (place number : ℕ) → number ≡ 0 → seen ≡ noted seen place number
unfolding noted
none_noted seen place number e = rw e (by (eqb seen.place 0))
  where
    by : (b : Bool) → seen ≡ cond (b && false) (refused_as place 0) seen
    by true = refl
    by false = refl

first_length : (numbers : List ℕ) (n : ℕ) → length (first_records numbers n) ≡ n
unfolding first_records
first_length numbers zero = refl
first_length numbers (suc n) = omega (arith, length-append (first_records numbers n) (record_at numbers (n * 9) ∷ []), first_length numbers n)

module _ (first : Run) (numbers : List ℕ) where
  -- nothing added yet
  pub none_run : first ≡ run_after first (first_records numbers 0)
  unfolding run_after first_records
  none_run = refl

  pub none_first : refused_as 0 0 ≡ first_refused first 1 (first_records numbers 0)
  unfolding first_refused first_records
  none_first = refl

  module _ (run : Run) (i : ℕ) (e : run ≡ run_after first (first_records numbers i)) where
    -- one turn of the loop
    pub turn_run : add_run run (record_at numbers (i * 9)) ≡ run_after first (first_records numbers (i + 1))
    unfolding first_records
    turn_run = rw (add-one, after_snoc, ← e)

    pub turn_first : (seen : RefusedAt) → seen ≡ first_refused first 1 (first_records numbers i)
        → noted seen (i + 1) (add_number run (record_at numbers (i * 9))) ≡ first_refused first 1 (first_records numbers (i + 1))
    unfolding first_records
    turn_first seen s =
        let place : 1 + length (first_records numbers i) ≡ suc i = omega (arith, first_length numbers i) in
        rw (add-one, first_snoc first 1 (first_records numbers i) (record_at numbers (i * 9)) (omega arith), place, ← e, ← s)

    -- all records added
    pub all_run : i ≡ length numbers / 9 → run ≡ run_after first (records_of numbers)
    unfolding records_of
    all_run h = rw (← h) e

  pub all_first : (seen : RefusedAt) (i : ℕ) → i ≡ length numbers / 9 → seen ≡ first_refused first 1 (first_records numbers i)
      → seen ≡ first_refused first 1 (records_of numbers)
  unfolding records_of
  all_first seen i h s = rw (← h) s

-- ---- nine numbers, and what stands behind them

module _ (numbers nine rest : List ℕ) (i : ℕ) (parts : drop (i * 9) numbers ≡ nine ++ rest) (size : length nine ≡ 9) where
  its_number : (k j : ℕ) → k < 9 → i * 9 + k ≡ j → get_or nine k 0 ≡ get_or numbers j 0
  its_number k j h e =
      sym (get_or-append nine rest 0 k (omega arith)) ∙ ap (λ (l : List ℕ). get_or l k 0) (sym parts) ∙ get_or-drop (i * 9) numbers k 0 ∙ ap (λ (m : ℕ). get_or numbers m 0) e

  pub its_record : record_at nine 0 ≡ record_at numbers (i * 9)
  unfolding record_at
  its_record =
      rw (
        its_number 0 (i * 9) (omega arith) (omega arith),
        its_number 1 (i * 9 + 1) (omega arith) refl,
        its_number 2 (i * 9 + 2) (omega arith) refl,
        its_number 3 (i * 9 + 3) (omega arith) refl,
        its_number 4 (i * 9 + 4) (omega arith) refl,
        its_number 5 (i * 9 + 5) (omega arith) refl,
        its_number 6 (i * 9 + 6) (omega arith) refl,
        its_number 7 (i * 9 + 7) (omega arith) refl,
        its_number 8 (i * 9 + 8) (omega arith) refl,
      ) refl

  pub behind : (n : ℕ) → n ≡ i + 1 → (n * 9 ≤ length numbers) × (rest ≡ drop (n * 9) numbers)
  behind n e = (
    omega (arith, ap length parts, length-append nine rest, length-drop (i * 9) numbers),
    sym (drop_at nine rest 9 size) ∙ ap (drop 9) (sym parts) ∙ drop-drop 9 (i * 9) numbers ∙ ap (λ (m : ℕ). drop m numbers) (omega arith),
  )

-- no nine are left
pub at_end : (numbers rest : List ℕ) (i : ℕ) → i * 9 ≤ length numbers → rest ≡ drop (i * 9) numbers → length rest < 9 → i ≡ length numbers / 9
at_end numbers rest i h e few = omega (arith, ap length e, length-drop (i * 9) numbers)

-- ---- the answer

module _ (head : Head) (numbers : List ℕ) where
  pub cut_list : (length numbers % 9 ≡ 0 → ⊥) → 10 ≡ list_number head numbers
  unfolding list_number list_grounds first_fit
  cut_list h = rw (ne_eqb (length numbers % 9) 0 h)

  pub whole_list : length numbers % 9 ≡ 0 → open_number head ≡ list_number head numbers
  unfolding list_number list_grounds first_fit open_number
  whole_list h = rw (eq-eqb (length numbers % 9) 0 h)

  -- a refused list
  module _ (n : ℕ) (e : n ≡ list_number head numbers) (h : eqb n 0 ≡ false) where
    pub refused_run : zero_run ≡ list_run head numbers
    unfolding list_run
    refused_run = rw (← e, h)

    pub refused_taken : 0 ≡ list_taken head numbers
    unfolding list_taken
    refused_taken = rw (← e, h)

    pub refused_first : refused_as 0 0 ≡ list_first head numbers
    unfolding list_first
    refused_first = rw (← e, h)

  -- one that is taken
  module _ (z : list_number head numbers ≡ 0) where
    pub given_run : run_after (open_run head) (records_of numbers) ≡ list_run head numbers
    unfolding list_run
    given_run = rw z

    pub given_taken : open_number head ≡ 0 → (run_after (open_run head) (records_of numbers)).count ≡ list_taken head numbers
    unfolding list_taken closed with_totals
    given_taken o = rw (z, after head o (records_of numbers))

    pub given_first : first_refused (open_run head) 1 (records_of numbers) ≡ list_first head numbers
    unfolding list_first
    given_first = rw z
