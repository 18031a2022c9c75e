-- Areas opened run by run. Assumes nothing.
use mathlib.Core.Path.{◌≡◌, refl, sym, ◌∙◌}
use mathlib.Core.List.{List}
use Prim.Native.Nat.{ℕ, ◌+◌, ◌*◌, ◌%◌, ◌≤◌, ◌<◌}
use native.Mathlib.Omega.{arith}
use borrow.Rule.Slice.PartMut.{put_mid}
use lib.ListN.{length, set}
use Rattle.std.specs.Prelude.{Result, Ok, Err, IsOkAnd, MatchResult}
use Rattle.std.specs.Result.{result_unwrap_or}
use Rattle.units.specs.declared.Refusal.{Refusal}
use Rattle.units.specs.Refusals.{answer_number}
use Rattle.units.specs.Lists.{tab}
use Rattle.units.proofs.Tab.{tab_at, tab_length}
use borrow.Author.Tests.{lt-ltb, eq-eqb, ne_eqb}
use Rattle.units.specs.Grounds.{first_fit}
use Rattle.units.proofs.Between.{Between, between_none, between_more, between}
use Rattle.inventory.specs.declared.Head.{Head}
use Rattle.inventory.specs.declared.Run.{Run}
use Rattle.inventory.specs.Opening.{open_number, open_run, zero_run, given_run}
use Rattle.areas.specs.Areas.{opened_areas}
use Rattle.areas.specs.Numbers.{run_number, areas_number, numbers_of}
use Rattle.areas.specs.Calls.{open_areas_number, open_areas_numbers}
use Rattle.area_runs.proofs.Written.{between_part}
use Rattle.area_opening.specs.Opening.{same_runs}

-- a loop has written the run to the first i areas
pub record Spread (run : Run) (numbers : List ℕ) (i : ℕ) (l : List ℕ) : Type 0 where
  pub part : Between 0 (areas_number (same_runs run)) numbers 2737 0 (i * 171) l

pub spread_none : (run : Run) (numbers : List ℕ) → length numbers ≡ 2737 → Spread run numbers 0 numbers
spread_none run numbers h = record { part = between_none 0 (areas_number (same_runs run)) numbers 2737 0 0 h refl }

same_number : (run : Run) (i k j : ℕ) → j ≡ i * 171 + k → i < 16 → k < 171 → areas_number (same_runs run) j ≡ run_number run k
unfolding areas_number
same_number run i k j e h l = let z : j % 171 ≡ k = omega arith in rw (lt-ltb j 2736 (omega arith), z)

-- k is the code's word for 171
pub spread_more : (run : Run) (numbers : List ℕ) (i k : ℕ) (l ys : List ℕ) → i < 16 → k ≡ 171 → Spread run numbers i l → ys ≡ tab (run_number run) 171
    → Spread run numbers (i + 1) (put_mid (i * 171) k l ys)
spread_more run numbers i k l ys h e p q =
    rw (e, q)
    (record {
      part =
          between_part (tab (run_number run) 171) 171 p.part (omega arith) (omega arith) (tab_length (run_number run) 171)
          (λ k b. tab_at 0 (run_number run) 171 k b ∙ sym (same_number run i k (i * 171 + k) refl h b)) ((i + 1) * 171)
          (omega arith);
    })

pub spread_done : (run : Run) (numbers : List ℕ) (i : ℕ) (l : List ℕ) → Spread run numbers i l → i ≤ 16 → 16 ≤ i → set l 2736 0 ≡ numbers_of (same_runs run)
unfolding numbers_of areas_number
spread_done run numbers i l p a b =
    between (between_more 2736 2737 0 p.part (omega arith) refl (omega arith) (omega arith) refl) (λ j h k. absurd (k (omega arith) (omega arith)))

-- ---- the number and the numbers of opening

-- an answer without its run has the same number
without : (P : Run → Unit {0} → Type 0) (v : Result Run Refusal) (answer : Result (Unit {0}) Refusal) → MatchResult v (λ x. IsOkAnd answer (P x)) (λ e. answer ≡ Err e) → answer_number answer ≡ answer_number v
unfolding answer_number
without P (Ok x) (Ok y) m = refl
without P (Ok x) (Err e) m = absurd m
without P (Err e) answer m = rw m

given : (v : Result Run Refusal) → result_unwrap_or v zero_run ≡ given_run v
unfolding given_run
given (Ok run) = refl
given (Err r) = refl

module _ (numbers : List ℕ) (head : Head) where
  pub open_short : (length numbers ≡ 2737 → ⊥) → (16 ≡ open_areas_number numbers head) × (numbers ≡ open_areas_numbers numbers head)
  unfolding open_areas_number open_areas_numbers first_fit
  open_short h = (rw (ne_eqb (length numbers) 2737 h), rw (ne_eqb (length numbers) 2737 h))

  module _ (size : length numbers ≡ 2737) (v : Result Run Refusal) where
    as_areas : (n : ℕ) → n ≡ open_number head → n ≡ open_areas_number numbers head
    unfolding open_areas_number open_number first_fit
    as_areas n e = rw (eq-eqb (length numbers) 2737 size) e

    pub number_opened : (P : Run → Unit {0} → Type 0) (answer : Result (Unit {0}) Refusal) → MatchResult v (λ x. IsOkAnd answer (P x)) (λ e. answer ≡ Err e)
        → answer_number v ≡ open_number head → answer_number answer ≡ open_areas_number numbers head
    number_opened P answer m n = without P v answer m ∙ as_areas (answer_number v) n

    pub numbers_opened : {l : List ℕ} {run zeros : Run} → zeros ≡ zero_run → run ≡ result_unwrap_or v zeros → given_run v ≡ open_run head → l ≡ numbers_of (same_runs run) → l ≡ open_areas_numbers numbers head
    unfolding open_areas_numbers opened_areas
    numbers_opened z e g q = q ∙ rw (eq-eqb (length numbers) 2737 size, e, z, given v, g)
