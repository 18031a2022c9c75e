-- What a question that is not refused has, and the answer where it is. Assumes nothing.
use mathlib.Core.Path.{◌≡◌}
use Prim.Native.Nat.{ℕ}
use Rattle.std.specs.Prelude.{Result, Ok, Err, IsErrAnd}
use Rattle.units.specs.declared.Grams.{Grams}
use Rattle.units.specs.declared.Refusal.{Refusal}
use Rattle.units.specs.Refusals.{answer_number}
use Rattle.units.specs.Grounds.{first_fit}
use Rattle.units.proofs.Passed.{passed_up}
use Rattle.units.proofs.Refusals.{taken_number}
use Rattle.inventory.specs.declared.Run.{Run}
use Rattle.inventory.specs.Printed.{total_grounds, answered, printed_answer}
use Rattle.inventory.proofs.Totals.{Asked, asked_of, answer_refused}

module _ {A : Type 0} (v : Result A Refusal) where
  pub asked_ok : (x : A) (run : Run) (fuel quantity : ℕ) → v ≡ Ok x → answer_number v ≡ first_fit (total_grounds run fuel quantity) → Asked run fuel quantity
  asked_ok x run fuel quantity e h = asked_of run fuel quantity (taken_number v x _ e h)

  pub answer_passed : (answer : Result Grams Refusal) (r : Refusal) (n g : ℕ) → IsErrAnd answer (λ y. y ≡ r) → v ≡ Err r → answer_number v ≡ n
      → printed_answer answer ≡ answered n g
  answer_passed answer r n g is e h = rw (passed_up answer r is) (answer_refused v r n g e h)
