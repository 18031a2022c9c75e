-- The answers of a row and of a figure, case by case. Assumes nothing.
use mathlib.Core.Path.{◌≡◌, ap, sym, subst}
use mathlib.Core.Bool.{true, false}
use mathlib.Core.List.{List, [], ◌∷◌}
use Prim.Native.Nat.{ℕ, ◌-◌, ◌^◌, ◌<◌}
use native.Mathlib.Omega.{arith}
use lib.Ieee.{Float}
use Rattle.std.specs.Prelude.{Option, Some, None, Result, Ok, Err, IsErrAnd}
use Rattle.units.specs.declared.Refusal.{Refusal}
use Rattle.units.specs.Grounds.{first_fit}
use Rattle.units.specs.Refusals.{refusal_number, answer_number}
use Rattle.units.proofs.Passed.{passed_up}
use Rattle.units.proofs.Refusals.{number_positive, taken_number, refused_number}
use Rattle.inventory.specs.declared.Run.{Run}
use Rattle.inventory.specs.declared.Kind.{Kind}
use Rattle.inventory.specs.declared.Kind.TheVariants.{Urban, Rural, Highway, Cold}
use Rattle.inventory.specs.Order.{in_order}
use Rattle.inventory.specs.Printed.{kind_place, printed_kind, total_grounds}
use Rattle.inventory.proofs.Totals.{kind_most}
use Rattle.map.specs.declared.Row.{Row}
use Rattle.map.specs.Floats.{Exactly, AllExact}
use Rattle.map.specs.Map.{row_grams, row_answer, row_number, row_of, row_whole, field_of, not_given, figure_answer, figure_of, figure_whole}

-- a printed kind is small enough for a float
pub kind_fits : (run : Run) → in_order run ≡ true → (fuel quantity kind g : ℕ) → fuel < 3 → quantity < 5 → kind < 4
    → g ≡ printed_kind run fuel quantity kind → g < 2 ^ 53
kind_fits run o fuel quantity kind g a b d e = rw e (omega (arith, kind_most run o fuel quantity kind a b d))

module _ (run : Run) (fuel quantity : ℕ) where
  pub row_refused : {A : Type 0} (v : Result A Refusal) (answer : Result Row Refusal) (r : Refusal) → IsErrAnd answer (λ y. y ≡ r) → v ≡ Err r
      → answer_number v ≡ first_fit (total_grounds run fuel quantity)
      → (row_answer answer ≡ row_of run fuel quantity) × AllExact (row_whole run fuel quantity) (row_answer answer).floats
  unfolding row_answer row_of row_whole row_number
  row_refused v answer r is e h = let n = refused_number v r _ e h in rw (passed_up answer r is) (rw (n, number_positive r), rw (n, number_positive r) tt)

  pub row_given : {A : Type 0} (v : Result A Refusal) (x : A) (row : Row) → v ≡ Ok x → answer_number v ≡ first_fit (total_grounds run fuel quantity)
      → Exactly (printed_kind run (fuel - 1) (quantity - 1) 0) row.urban
      → Exactly (printed_kind run (fuel - 1) (quantity - 1) 1) row.rural
      → Exactly (printed_kind run (fuel - 1) (quantity - 1) 2) row.highway
      → Exactly (printed_kind run (fuel - 1) (quantity - 1) 3) row.cold
      → (row_answer (Ok row) ≡ row_of run fuel quantity) × AllExact (row_whole run fuel quantity) (row_answer (Ok row)).floats
  unfolding row_answer row_of row_whole row_number row_grams
  row_given v x row t h a b c d =
      let n = taken_number v x _ t h in
      (rw (n, a.same, b.same, c.same, d.same), rw n (a, (b, (c, (d, tt)))))

  -- ---- a figure from a row

  pub figure_refused : (v : Result Row Refusal) (answer : Result (Option Float) Refusal) (r : Refusal) (kind : Kind) → IsErrAnd answer (λ y. y ≡ r) → v ≡ Err r
      → row_answer v ≡ row_of run fuel quantity
      → (figure_answer answer ≡ figure_of run fuel quantity kind) × AllExact (figure_whole run fuel quantity kind) (figure_answer answer).floats
  unfolding row_answer row_of figure_answer figure_of figure_whole
  figure_refused v answer r kind is k e =
      let n : refusal_number r ≡ row_number run fuel quantity = ap (λ g. g.number) (rw k at e) in
      rw (passed_up answer r is) (rw (← n, number_positive r), rw (← n, number_positive r) tt)

  module _ (row : Row) (e : row_answer (Ok row) ≡ row_of run fuel quantity) where
    number_zero : row_number run fuel quantity ≡ 0
    unfolding row_answer row_of
    number_zero = sym (ap (λ g. g.number) e)

    pub figure_none : (kind : Kind) → not_given fuel quantity ≡ true
        → (figure_answer (Ok None) ≡ figure_of run fuel quantity kind) × AllExact (figure_whole run fuel quantity kind) []
    unfolding figure_answer figure_of figure_whole
    figure_none kind g = (rw (number_zero, g), rw (number_zero, g) tt)

    whole : row_whole run fuel quantity ≡ row_grams run (fuel - 1) (quantity - 1)
    unfolding row_whole
    whole = rw number_zero

    module _ (exact : AllExact (row_whole run fuel quantity) (row_answer (Ok row)).floats) where
      all_four : Exactly (printed_kind run (fuel - 1) (quantity - 1) 0) row.urban
          × (Exactly (printed_kind run (fuel - 1) (quantity - 1) 1) row.rural
          × (Exactly (printed_kind run (fuel - 1) (quantity - 1) 2) row.highway
          × (Exactly (printed_kind run (fuel - 1) (quantity - 1) 3) row.cold × Unit {0})))
      unfolding row_answer row_grams
      all_four = subst (λ (l : List ℕ). AllExact l (row.urban ∷ row.rural ∷ row.highway ∷ row.cold ∷ [])) whole exact

      field_exact : (kind : Kind) → Exactly (printed_kind run (fuel - 1) (quantity - 1) (kind_place kind)) (field_of row kind)
      field_exact Urban = all_four.0
      field_exact Rural = all_four.1.0
      field_exact Highway = all_four.1.1.0
      field_exact Cold = all_four.1.1.1.0

      pub figure_given : (kind : Kind) (x : Float) → not_given fuel quantity ≡ false → x ≡ field_of row kind
          → (figure_answer (Ok (Some x)) ≡ figure_of run fuel quantity kind) × AllExact (figure_whole run fuel quantity kind) (x ∷ [])
      unfolding figure_answer figure_of figure_whole
      figure_given kind x g h =
          let f = field_exact kind in
          (rw (number_zero, g, h, f.same), rw (number_zero, g, h) (f, tt))
