-- `units::refusal_number` meets its contract. Assumes nothing.
use Rattle.std.specs.Prelude.{◌≡◌, ◌+◌}
use mathlib.Core.Path.{refl}
use Rattle.units.specs.declared.Refusal.{Refusal}
use Rattle.units.specs.declared.Refusal.TheVariants.{TripLength, Temperature, Class, Vehicles, Kilometres, Distance, Shares, RoadSpeed, FullRun, LineShape, FuelOrQuantity, NoFuelUsed, SoldFuel, ShortBuffer, FuelContent, RunOrder, NoArea, FullArea, NoDay, DayOrder, HeadsDiffer, FullTogether}
use Rattle.units.specs.contracts.Refusal.{the_type}
use Rattle.units.specs.Refusals.{refusal_number}
use denote.Enum.Declared.{tag_of}
use Rattle.units.proofs.refusal_number.Goals as goal

-- the discriminants are the numbers
discriminant : (r : Refusal) → tag_of the_type r + 1 ≡ refusal_number r
unfolding refusal_number
discriminant TripLength = refl
discriminant Temperature = refl
discriminant Class = refl
discriminant Vehicles = refl
discriminant Kilometres = refl
discriminant Distance = refl
discriminant Shares = refl
discriminant RoadSpeed = refl
discriminant FullRun = refl
discriminant LineShape = refl
discriminant FuelOrQuantity = refl
discriminant NoFuelUsed = refl
discriminant SoldFuel = refl
discriminant ShortBuffer = refl
discriminant FuelContent = refl
discriminant RunOrder = refl
discriminant NoArea = refl
discriminant FullArea = refl
discriminant NoDay = refl
discriminant DayOrder = refl
discriminant HeadsDiffer = refl
discriminant FullTogether = refl

pub returns : goal.returns
returns c = discriminant c.args.r
