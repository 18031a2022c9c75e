-- What the loop of `add_list::add_all` keeps. Assumes nothing.
use Prim.Native.Nat.{◌*◌, ◌≤◌}
use mathlib.Core.Path.{◌≡◌}
use mathlib.Core.Bool.{true}
use lib.ListN.{length, drop}
use Rattle.std.specs.Iterator.Adapters.{enumerate_source, enumerate_count}
use Rattle.std.specs.Slice.Iter.{chunks_exact_rest, chunks_exact_size}
use Rattle.inventory.specs.Order.{in_order}
use Rattle.inventory.specs.Adding.{with_totals}
use Rattle.accuracy.specs.Claim.{run_after}
use Rattle.add_list.specs.Records.{first_records}
use Rattle.add_list.specs.Answer.{refused_at, first_refused}
use Rattle.add_list.proofs.Lists.{IsPlaced}
use Rattle.add_list.proofs.add_all.Given as goal

abbrev pub invariant-loop-i : goal.invariant-loop-i
invariant-loop-i l =
    (goal.iterator-loop-i).can_next l.i-iterator
    × (goal.iterator-loop-i).is_finite l.i-iterator
    × (chunks_exact_size (enumerate_source l.i-iterator) ≡ 9)
    × (enumerate_count l.i-iterator * 9 ≤ length l.numbers)
    × (chunks_exact_rest (enumerate_source l.i-iterator) ≡ drop (enumerate_count l.i-iterator * 9) l.numbers)
    × (in_order (with_totals l.run) ≡ true) × IsPlaced l.first
    × (with_totals l.run ≡ run_after (with_totals l.initial.run) (first_records l.numbers (enumerate_count l.i-iterator)))
    × (refused_at l.first ≡ first_refused (with_totals l.initial.run) 1 (first_records l.numbers (enumerate_count l.i-iterator)))
