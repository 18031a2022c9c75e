-- What `?` passes up is the refusal that it met. Assumes nothing.
use mathlib.Core.Path.{◌≡◌, ap, sym}
use mathlib.Core.Bool.{false}
use Prim.Native.Nat.{ℕ}
use lib.Dec.{eqb}
use Rattle.std.specs.Prelude.{Result, Ok, Err, IsErrAnd}
use Rattle.units.specs.declared.Refusal.{Refusal}
use Rattle.units.specs.Refusals.{answer_number}
use Rattle.units.proofs.Refusals.{number_positive, refused_number}

pub passed_up : {A E : Type 0} (r : Result A E) (e : E) → IsErrAnd r (λ y. y ≡ e) → r ≡ Err e
passed_up (Ok x) e is = absurd is
passed_up (Err y) e is = ap (λ z. Err z) is

module _ {A : Type 0} (v : Result A Refusal) (r : Refusal) (e : v ≡ Err r) (n : ℕ) (h : answer_number v ≡ n) where
  -- it has the number that was met
  pub number_passed : {B : Type 0} (answer : Result B Refusal) → IsErrAnd answer (λ y. y ≡ r) → answer_number answer ≡ n
  unfolding answer_number
  number_passed answer is = rw (passed_up answer r is) (sym (refused_number v r n e h))

  -- which is not 0
  pub passed_positive : eqb n 0 ≡ false
  passed_positive = rw (refused_number v r n e h) (number_positive r)
