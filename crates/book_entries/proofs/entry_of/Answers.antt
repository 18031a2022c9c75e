-- `book_entries::entry_of` meets its contract. Assumes nothing.
use Prim.Native.Nat.{◌+◌, ◌/◌, ◌%◌}
use native.Mathlib.Omega.{arith}
use Rattle.book_entries.specs.Book.{class_at, entry_of}
use Rattle.book_entries.proofs.Book.{in_range, driven_roads, factor_curve}
use Rattle.book_entries.proofs.entry_of.Goals as goal

pub curve_factors-e-requires : goal.curve_factors-e-requires
curve_factors-e-requires c =
    let i = c.args.i in
    rw c.class_at-class.ensures
    (let d = driven_roads (i / 605) (10 + i % 121) (omega arith) (omega arith) (omega arith) in record { driven = d.0; fact = d.1 })

pub returns : goal.returns
unfolding entry_of
returns c =
    let i = c.args.i in
    factor_curve (class_at (i / 605)) (i / 121 % 5) (10 + i % 121) _ (rw c.class_at-class.ensures at c.curve_factors-e.ensures) (in_range (i / 605) (omega arith)).2 (omega arith)
