-- The grounds of a question for grams from fuel. Assumes nothing.
use mathlib.Core.Path.{◌≡◌}
use mathlib.Core.Bool.{true, cond}
use mathlib.Core.List.{[], ◌∷◌}
use Prim.Native.Nat.{ℕ, ◌+◌, ◌*◌, ◌≤◌, ◌<◌}
use native.Mathlib.Nat.{mul-le-mul}
use native.Mathlib.Omega.{arith}
use lib.Dec.{eqb, ltb}
use borrow.Author.Tests.{lt-ltb, le-ltb, ltb-false}
use Rattle.std.specs.Prelude.{Result, Ok, Err, IsErrAnd}
use Rattle.units.specs.declared.Refusal.{Refusal}
use Rattle.units.specs.Grounds.{ground, first_fit}
use Rattle.units.specs.Refusals.{answer_number}
use Rattle.units.specs.Rounding.{half_up}
use Rattle.units.proofs.Grounds.{passed, fit_append}
use Rattle.units.proofs.Passed.{passed_up}
use Rattle.units.proofs.Refusals.{number_positive, taken_number, refused_number}
use Rattle.inventory.specs.declared.Run.{Run}
use Rattle.inventory.specs.Order.{in_order}
use Rattle.inventory.specs.Printed.{answered, total_grounds}
use Rattle.inventory.proofs.Totals.{asked_of}
use Rattle.fuel.specs.FromFuel.{content_grounds}
use Rattle.balance.proofs.Behind.{both}

module _ (run : Run) (fuel limit content : ℕ) where
  -- a question's grounds come first
  in_turn : first_fit (content_grounds run fuel limit content)
      ≡ cond (eqb (first_fit (total_grounds run fuel 5)) 0) (cond (ltb limit content) 15 0) (first_fit (total_grounds run fuel 5))
  unfolding content_grounds total_grounds first_fit
  in_turn = fit_append (total_grounds run fuel 5) (ground 15 (ltb limit content) ∷ []) tt

  module _ {A : Type 0} (v : Result A Refusal) (asked : answer_number v ≡ first_fit (total_grounds run fuel 5)) where
    pub unasked : {B : Type 0} (answer : Result B Refusal) (r : Refusal) → IsErrAnd answer (λ y. y ≡ r) → v ≡ Err r
        → answer_number answer ≡ first_fit (content_grounds run fuel limit content)
    unfolding answer_number
    unasked answer r is e = rw (passed_up answer r is, in_turn, refused_number v r _ e asked, number_positive r)

    pub over : (x : A) → v ≡ Ok x → limit < content → 15 ≡ first_fit (content_grounds run fuel limit content)
    over x e h = rw (in_turn, taken_number v x _ e asked, lt-ltb limit content h)

    pub within : (x : A) → v ≡ Ok x → content ≤ limit → 0 ≡ first_fit (content_grounds run fuel limit content)
    within x e h = rw (in_turn, taken_number v x _ e asked, le-ltb limit content h)

-- what such a question has that no ground fits
pub record Contained (run : Run) (fuel limit content : ℕ) : Type 0 where
  pub order : in_order run ≡ true
  pub fuel_low : 1 ≤ fuel
  pub fuel_high : fuel ≤ 3
  pub content_high : content ≤ limit

contained : (run : Run) (fuel limit content : ℕ) → first_fit (content_grounds run fuel limit content) ≡ 0 → Contained run fuel limit content
unfolding content_grounds total_grounds
contained run fuel limit content z =
    let p = both (total_grounds run fuel 5) (ground 15 (ltb limit content) ∷ []) tt z in
    let a = asked_of run fuel 5 p.0 in
    record {
      order = a.order;
      fuel_low = a.fuel_low;
      fuel_high = a.fuel_high;
      content_high = ltb-false limit content (passed (ground 15 (ltb limit content) ∷ []) tt p.1).0;
    }

pub contained_ok : {A : Type 0} (v : Result A Refusal) (x : A) (run : Run) (fuel limit content : ℕ) → v ≡ Ok x
    → answer_number v ≡ first_fit (content_grounds run fuel limit content) → Contained run fuel limit content
contained_ok v x run fuel limit content e h = contained run fuel limit content (taken_number v x _ e h)

-- the numbers of a formula stay small within the limit of the content
pub sized : (limit content a b c d : ℕ) → content ≤ limit → a + b * limit ≤ 4 * c → c + d * limit ≤ 20000000
    → (a + b * content ≤ 4 * c) × (c + d * content ≤ 20000000)
sized limit content a b c d h up down =
    let p : b * content ≤ b * limit = mul-le-mul (omega arith) h in
    let q : d * content ≤ d * limit = mul-le-mul (omega arith) h in
    (omega arith, omega arith)

-- the same answer, its two numbers written otherwise
pub by_numbers : (n f p q d e : ℕ) → p ≡ q → d ≡ e → answered n (half_up (p * f) d) ≡ answered n (half_up (q * f) e)
by_numbers n f p q d e h k = rw (h, k)
