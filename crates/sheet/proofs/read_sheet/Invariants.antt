-- What the loop of `sheet::read_sheet` keeps. Assumes nothing.
use Prim.Native.Nat.{◌+◌, ◌≤◌}
use mathlib.Core.Path.{◌≡◌}
use mathlib.Core.Bool.{true}
use lib.ListN.{length}
use Rattle.std.specs.Iterator.Adapters.{enumerate_source, enumerate_count}
use Rattle.std.specs.Slice.Iter.{chunks_rest, chunks_size}
use Rattle.inventory.specs.Order.{in_order}
use Rattle.inventory.specs.Adding.{with_totals}
use Rattle.lines.specs.Lines.{lines}
use Rattle.sheet.specs.Sheet.{from_records, sheet_of}
use Rattle.sheet.proofs.read_sheet.Given as goal

abbrev pub invariant-loop-i : goal.invariant-loop-i
invariant-loop-i l =
    (goal.iterator-loop-i).can_next l.i-iterator
    × (goal.iterator-loop-i).is_finite l.i-iterator
    × (chunks_size (enumerate_source l.i-iterator) ≡ 41)
    × (enumerate_count l.i-iterator + length (chunks_rest (enumerate_source l.i-iterator)) ≤ length l.text)
    × (in_order (with_totals l.run) ≡ true)
    × (from_records (with_totals l.run) (enumerate_count l.i-iterator + 2) (lines (chunks_rest (enumerate_source l.i-iterator))) ≡ sheet_of l.text)
