-- `book::factor_book` meets its contract: antt computes the 3,630 entries of the book from the curves and compares them with the
-- code's constant. Assumes nothing.
use Rattle.curves.specs.Curves.{quadratic}
use Rattle.factors.specs.Factors.{coefficients, curve}
use Rattle.book_entries.specs.Book.{class_at, entry_of}
use Rattle.book.proofs.Computed.{listed_book}
use Rattle.book.proofs.factor_book.Goals as goal

pub returns : goal.returns
unfolding entry_of class_at curve quadratic coefficients
returns c = listed_book
