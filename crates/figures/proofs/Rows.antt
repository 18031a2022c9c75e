-- Laws of the rows of printed figures. Assumes nothing.
use Prim.Native.Nat.{ℕ, ◌+◌, ◌*◌, ◌/◌, ◌%◌, ◌<◌}
use mathlib.Core.Path.{◌≡◌}
use native.Mathlib.Omega.{arith}
use Rattle.inventory.specs.declared.Run.{Run}
use Rattle.inventory.specs.Order.{in_billionths, sum_at, place}
use Rattle.inventory.specs.Amounts.{sum_amount, total_amount}
use Rattle.inventory.specs.Limits.{TotalLimits}
use Rattle.inventory.specs.Printed.{printed_kind, printed_total}
use Rattle.inventory.proofs.Amounts.{grams_by}
use Rattle.units.specs.Rounding.{half_up}
use Rattle.figures.specs.declared.Row.{Row}
use Rattle.figures.specs.Table.{printed_row, row_at, row_from}

-- a row by its five roundings
pub row_made : (row : Row) (a b c d t : ℕ) → row.urban.0 ≡ half_up a 1000000000 → row.rural.0 ≡ half_up b 1000000000 → row.highway.0 ≡ half_up c 1000000000
    → row.cold.0 ≡ half_up d 1000000000 → row.total.0 ≡ half_up t 1000000000 → row ≡ row_from a b c d t
unfolding row_from
row_made row a b c d t p q v w x =
    let u = grams_by row.urban _ p in
    let r = grams_by row.rural _ q in
    let h = grams_by row.highway _ v in
    let k = grams_by row.cold _ w in
    let s = grams_by row.total _ x in
    λ i. record { urban = u i; rural = r i; highway = h i; cold = k i; total = s i }

-- the row k from the four sums at k × 4 and the stored total k
pub row_from_lem : (run : Run) → TotalLimits run → (k : ℕ) → k < 15
    → row_from (in_billionths (sum_amount run (k * 4))) (in_billionths (sum_amount run (k * 4 + 1))) (in_billionths (sum_amount run (k * 4 + 2))) (in_billionths (sum_amount run (k * 4 + 3)))
    (in_billionths (total_amount run k))
    ≡ row_at run k
unfolding row_from printed_row printed_kind printed_total sum_at
row_from_lem run lim k h =
    let a : place (k / 5) (k % 5) 0 ≡ k * 4 = omega arith in
    let b : place (k / 5) (k % 5) 1 ≡ k * 4 + 1 = omega arith in
    let c : place (k / 5) (k % 5) 2 ≡ k * 4 + 2 = omega arith in
    let d : place (k / 5) (k % 5) 3 ≡ k * 4 + 3 = omega arith in
    rw (lim.exact k h, a, b, c, d)
