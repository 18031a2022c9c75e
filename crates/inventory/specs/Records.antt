-- Heads and records: what their parts mean, and the grounds on which they are refused (SPECIFICATION, "Records and units"
-- and "Refusals").
-- Assumes nothing.
use Rattle.std.specs.Prelude.{ℕ, ◌+◌, ◌*◌, Bool, not, ◌||◌, List, [], ◌∷◌, ltb, eqb, pos, get_or}
use Rattle.units.specs.Lists.{all_below}
use Rattle.units.specs.Grounds.{Ground, ground, outside}
use Rattle.calendar.specs.Periods.{period_grounds}
use Rattle.coldstart.specs.ColdStart.{temperature_ok}
use Rattle.inventory.specs.declared.Head.{Head}
use Rattle.inventory.specs.declared.Record.{Record}

-- the temperature of month k is in range
abbrev pub month_ok : Head → ℕ → Bool
month_ok head k = temperature_ok (get_or head.temps k (pos 0))

-- a T out of range
unfoldable pub temperatures_wrong : Head → Bool
temperatures_wrong head = not (all_below (month_ok head) 12)

-- the grounds of opening, in their order: 1, 2, then those of the period
unfoldable pub head_grounds : Head → List Ground
head_grounds head = ground 1 (outside 10 200 head.trip) ∷ ground 2 (temperatures_wrong head) ∷ period_grounds head.period

-- the specification's K, in vehicle kilometres
unfoldable pub vehicle_km : Record → ℕ
vehicle_km rec = rec.vehicles * rec.km

-- a share over 100, or sum not 100
unfoldable pub shares_wrong : Record → Bool
shares_wrong rec =
    ltb 100 rec.shares.urban || ltb 100 rec.shares.rural || ltb 100 rec.shares.highway
    || not (eqb (rec.shares.urban + rec.shares.rural + rec.shares.highway) 100)

-- a speed out of range, required also where the share is 0
unfoldable pub speeds_wrong : Record → Bool
speeds_wrong rec =
    outside 10 130 rec.speeds.urban.0 || outside 10 130 rec.speeds.rural.0 || outside 10 130 rec.speeds.highway.0

-- the grounds of a record by itself, in their order
unfoldable pub record_grounds : Record → List Ground
record_grounds rec =
    ground 3 (outside 1 7 rec.class)
    ∷ ground 4 (outside 1 1000000 rec.vehicles)
    ∷ ground 5 (outside 1 999999 rec.km)
    ∷ ground 6 (ltb 1000000000 (vehicle_km rec))
    ∷ ground 7 (shares_wrong rec)
    ∷ ground 8 (speeds_wrong rec)
    ∷ []

-- share and speed of a road: 0 urban, 1 rural, 2 highway
abbrev pub share_of : Record → ℕ → ℕ
share_of rec road = get_or (rec.shares.urban ∷ rec.shares.rural ∷ rec.shares.highway ∷ []) road 0

abbrev pub speed_of : Record → ℕ → ℕ
speed_of rec road = get_or (rec.speeds.urban.0 ∷ rec.speeds.rural.0 ∷ rec.speeds.highway.0 ∷ []) road 0
