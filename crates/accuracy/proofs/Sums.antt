-- Sums over lists of records.
-- Assumes nothing.
use mathlib.Core.Path.{◌≡◌}
use mathlib.Core.List.{List, [], ◌∷◌, ◌++◌}
use Prim.Native.Nat.{ℕ, ◌+◌}
use native.Mathlib.Omega.{arith}
use Rattle.inventory.specs.declared.Record.{Record}

-- the sum of a number of each record
unfoldable pub sum_of : (Record → ℕ) → List Record → ℕ
sum_of g [] = 0
sum_of g (rec ∷ l) = g rec + sum_of g l

pub sum_append : (g : Record → ℕ) (l m : List Record) → sum_of g (l ++ m) ≡ sum_of g l + sum_of g m
unfolding sum_of
sum_append g [] m = omega arith
sum_append g (rec ∷ l) m = omega (arith, sum_append g l m)

pub sum_one_more : (g : Record → ℕ) (l : List Record) (rec : Record) → sum_of g (l ++ (rec ∷ [])) ≡ sum_of g l + g rec
unfolding sum_of
sum_one_more g l rec = omega (arith, sum_append g l (rec ∷ []))
