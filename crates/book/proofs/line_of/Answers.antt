-- `book::line_of` meets its contract. Assumes nothing.
use native.Mathlib.Omega.{arith}
use Rattle.book_entries.specs.Book.{book}
use Rattle.book_entries.proofs.Book.{placed}
use Rattle.book.proofs.Lines.{page_line}
use Rattle.book.proofs.line_of.Goals as goal

pub overflow_mul-place : goal.overflow_mul-place
overflow_mul-place c =
    let p = placed c.args.class _ c.requires.driven c.requires.fact in
    omega (arith, p.0, c.place_of-place.ensures)

pub overflow_add-place : goal.overflow_add-place
overflow_add-place c =
    let p = placed c.args.class _ c.requires.driven c.requires.fact in
    omega (arith, p.0, c.place_of-place.ensures, c.requires.driven.speed_high)

pub page_of-requires : goal.page_of-requires
page_of-requires c =
    let p = placed c.args.class _ c.requires.driven c.requires.fact in
    omega (arith, p.0, c.place_of-place.ensures, c.requires.driven.speed_high)

pub returns-then-place-eq0 : goal.returns-then-place-eq0
returns-then-place-eq0 c =
    let e = c.place_of-place.ensures in
    page_line book _ _ _ 0 (rw e at c.page_of.ensures) (omega (arith, c.requires.driven.speed_high)) (rw e at c.if-place-eq0.true)

pub returns-else-place-eq0 : goal.returns-else-place-eq0
returns-else-place-eq0 c =
    let e = c.place_of-place.ensures in
    page_line book _ _ _ 1 (rw e at c.page_of.ensures) (omega (arith, c.requires.driven.speed_high)) (omega (arith, e, c.if-place-eq0.false))
