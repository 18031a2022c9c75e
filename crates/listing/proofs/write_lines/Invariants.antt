-- What the loop of `listing::write_lines` keeps. Assumes nothing.
use Rattle.listing.proofs.Lines.{Writing}
use Rattle.listing.proofs.write_lines.Given as goal

abbrev pub invariant-loop-k : goal.invariant-loop-k
invariant-loop-k l = Writing l.f l.k l.at l.report
