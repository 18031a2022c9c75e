-- A figure is the row's field. Assumes nothing.
use mathlib.Core.Path.{◌≡◌, refl, ap}
use mathlib.Core.List.{[], ◌∷◌, map}
use Prim.Native.Nat.{ℕ, ◌-◌}
use lib.ListN.{get_or}
use Rattle.inventory.specs.declared.Run.{Run}
use Rattle.inventory.specs.declared.Kind.{Kind}
use Rattle.inventory.specs.declared.Kind.TheVariants.{Urban, Rural, Highway, Cold}
use Rattle.inventory.specs.Printed.{kind_place, printed_kind}
use Rattle.map.specs.Floats.{float_of}
use Rattle.map.specs.Map.{row_grams, row_of, figure_of}
use Rattle.map.specs.Claim.{FigureClaim}

field : (run : Run) (fuel quantity : ℕ) (kind : Kind)
    → float_of (printed_kind run fuel quantity (kind_place kind)) ≡ get_or (map float_of (row_grams run fuel quantity)) (kind_place kind) (float_of 0)
unfolding row_grams
field run fuel quantity Urban = refl
field run fuel quantity Rural = refl
field run fuel quantity Highway = refl
field run fuel quantity Cold = refl

pub figure_claim : FigureClaim
unfolding figure_of row_of
figure_claim =
    record { figure_in_row = λ run fuel quantity kind e g. rw (e, g) (ap (λ x. x ∷ []) (field run (fuel - 1) (quantity - 1) kind)) }
