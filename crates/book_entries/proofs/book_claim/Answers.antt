-- `book_entries::book_claim` does nothing: what it ensures is the theorem. Assumes nothing.
use Rattle.book_entries.proofs.Book.{book_claim}
use Rattle.book_entries.proofs.book_claim.Goals as goal

pub returns : goal.returns
returns c = book_claim
