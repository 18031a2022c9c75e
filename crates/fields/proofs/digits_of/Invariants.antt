-- What the loop of `fields::digits_of` keeps. Assumes nothing.
use Rattle.std.proofs.Common.{◌≡◌, ◌^◌, ◌<◌, ◌≤◌, drop}
use Rattle.fields.specs.Reading.{begun}
use Rattle.fields.proofs.Read.{ahead}
use Rattle.fields.proofs.digits_of.Given as goal

abbrev pub invariant-loop-d : goal.invariant-loop-d
invariant-loop-d l = (l.d-index ≤ l.n) × (l.n < 10 ^ l.d-index) × (ahead l.n (drop l.d-index l.f) ≡ begun l.f)
