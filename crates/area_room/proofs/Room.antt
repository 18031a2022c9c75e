-- The first ground that fits a record in an area, test by test. Assumes nothing.
use mathlib.Core.Path.{◌≡◌}
use Prim.Native.Nat.{ℕ, ◌≤◌, ◌<◌}
use lib.Dec.{leb}
use borrow.Author.Tests.{le-leb, lt-leb}
use Rattle.std.specs.Prelude.{Result, Ok, Err}
use Rattle.std.specs.Result.{IsErrAnd}
use Rattle.units.specs.declared.Refusal.{Refusal}
use Rattle.units.specs.Grounds.{first_fit}
use Rattle.units.specs.Refusals.{answer_number}
use Rattle.units.proofs.Refusals.{number_positive, taken_number, refused_number}
use Rattle.units.proofs.Passed.{passed_up}
use Rattle.units.proofs.Tests.{and_false}
use Rattle.inventory.specs.declared.Record.{Record}
use Rattle.inventory.specs.Records.{record_grounds}
use Rattle.areas.specs.Areas.{area_grounds}
use Rattle.areas.proofs.Adding.{area_turn}

module _ {A : Type 0} (count common : ℕ) (rec : Record) (v : Result A Refusal) (h : answer_number v ≡ first_fit (record_grounds rec)) where
  pub area_refused : {B : Type 0} (answer : Result B Refusal) (r : Refusal) → IsErrAnd answer (λ y. y ≡ r) → v ≡ Err r
      → answer_number answer ≡ first_fit (area_grounds count common rec)
  unfolding answer_number
  area_refused answer r is e = rw (passed_up answer r is, area_turn count common rec, refused_number v r _ e h, number_positive r)

  module _ (x : A) (e : v ≡ Ok x) where
    pub area_full_lem : 300 ≤ count → 200 ≤ common → 18 ≡ first_fit (area_grounds count common rec)
    area_full_lem a b = rw (area_turn count common rec, taken_number v x _ e h, le-leb 300 count a, le-leb 200 common b)

    -- room among the common 200, and room of its own
    pub room_common : common < 200 → 0 ≡ first_fit (area_grounds count common rec)
    room_common a = rw (area_turn count common rec, taken_number v x _ e h, lt-leb 200 common a, and_false (leb 300 count))

    pub room_own : count < 300 → 0 ≡ first_fit (area_grounds count common rec)
    room_own a = rw (area_turn count common rec, taken_number v x _ e h, lt-leb 300 count a)
