-- `kilometres::add_km` meets its contract. Assumes nothing.
use Rattle.std.proofs.Common.{rules}
use Rattle.units.proofs.Between.{length_of}
use Rattle.inventory.specs.Records.{vehicle_km}
use Rattle.kilometres.proofs.Made.{fuel_most, raised_km}
use Rattle.kilometres.proofs.add_km.Goals as goal

pub returns : goal.returns
unfolding vehicle_km
returns c =
    let e = c.fuel_of-fuel.ensures in
    raised_km c.args.run.now c.args.rec _ e (fuel_most c.args.rec _ e) (search (rules, length_of))
