-- `figures::row_from` meets its contract. Assumes nothing.
use Rattle.std.proofs.Common.{rules}
use Rattle.figures.proofs.Rows.{row_made}
use Rattle.figures.proofs.row_from.Goals as goal

pub returns : goal.returns
returns c = search (rules, row_made)
