-- What the loop of `fields::behind_spaces` keeps. Assumes nothing.
use Rattle.std.proofs.Common.{◌≡◌, length}
use Rattle.fields.specs.Field.{blank, scan}
use Rattle.fields.proofs.behind_spaces.Given as goal

abbrev pub invariant-loop-rest : goal.invariant-loop-rest
invariant-loop-rest l = scan blank l.rest ≡ scan blank l.f

abbrev pub decreases-loop-rest : goal.decreases-loop-rest
decreases-loop-rest l = length l.rest
