-- A run by its kilometres.
-- Assumes nothing.
use Rattle.std.specs.Prelude.{List, []}
use Rattle.units.specs.Lists.{tab}
use Rattle.inventory.specs.declared.Record.{Record}
use Rattle.inventory.specs.Adding.{km_after}
use Rattle.units.specs.declared.VehicleKm.{VehicleKm}
use Rattle.inventory.specs.declared.Run.{Run}

-- a run with these kilometres
abbrev pub of_km : List VehicleKm → Run
of_km km = record { trip = 0; x = []; count = 0; km = km; grams = []; rests = []; total_grams = []; total_rests = [] }

-- a run with a record in its kilometres
abbrev pub with_km : Run → Record → Run
with_km run rec = record run { km = tab (km_after run rec) 3 }
