-- `book_lines::line_at` meets its contract. Assumes nothing.
use Rattle.units.specs.Lists.{tab}
use Rattle.book_lines.specs.Lines.{line_of}
use Rattle.book_lines.proofs.line_at.Goals as goal

pub returns : goal.returns
unfolding tab line_of
returns c = cc
