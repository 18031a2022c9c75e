-- `long_division::ratio_of` meets its contract. Assumes nothing.
use native.Mathlib.Omega.{arith}
use Rattle.long_division.proofs.Steps.{fills, remains, rounded}
use Rattle.long_division.proofs.ratio_of.Goals as goal

pub filled-q-requires : goal.filled-q-requires
filled-q-requires c =
    fills c.args.s c.args.f.0 c.requires c.divided-d.result c.divided-d.ensures

pub nearest_of-requires : goal.nearest_of-requires
nearest_of-requires c =
    let d = c.divided-d in (
      omega (arith, c.filled-q.ensures, (fills c.args.s c.args.f.0 c.requires d.result d.ensures).1),
      omega (arith, c.requires.grams, remains c.args.s c.args.f.0 c.requires d.result d.ensures),
    )

pub returns : goal.returns
returns c =
    let d = c.divided-d in
    rounded c.args.s c.args.f.0 c.requires d.result _ _ d.ensures c.filled-q.ensures c.nearest_of.ensures
