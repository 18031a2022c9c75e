-- The kilometres with a record. Assumes nothing.
use mathlib.Core.Path.{◌≡◌, refl, ap, sym, ◌∙◌}
use mathlib.Core.List.{List}
use Prim.Native.Nat.{ℕ, ◌+◌, ◌≤◌}
use native.Mathlib.Omega.{arith}
use lib.ListN.{length, get_or, set}
use borrow.Author.Tests.{eq-eqb, ne_eqb}
use Rattle.units.specs.declared.VehicleKm.{VehicleKm}
use Rattle.units.specs.Lists.{tab}
use Rattle.units.proofs.Between.{between_none, between_more, between}
use Rattle.classes.specs.Classes.{fuel_of}
use Rattle.classes.proofs.Classes.{fuel_below}
use Rattle.inventory.specs.declared.Record.{Record}
use Rattle.inventory.specs.declared.Run.{Run}
use Rattle.inventory.specs.Records.{vehicle_km}
use Rattle.inventory.specs.Order.{km_in}
use Rattle.inventory.specs.Adding.{km_of, km_after}
use Rattle.kilometres.specs.Parts.{with_km}

pub fuel_most : (rec : Record) (fuel : ℕ) → fuel ≡ fuel_of rec.class → fuel ≤ 2
fuel_most rec fuel e = omega (arith, fuel_below rec.class)

module _ (run : Run) (rec : Record) (fuel : ℕ) (ef : fuel ≡ fuel_of rec.class) (hf : fuel ≤ 2) where
  km_new : ◌≡◌ {A = VehicleKm} (record { 0 = km_in run fuel + vehicle_km rec }) (km_after run rec fuel)
  unfolding km_after km_of
  km_new = rw (eq-eqb fuel (fuel_of rec.class) ef)

  km_by : (v : VehicleKm) → ◌≡◌ {A = VehicleKm} v (record { 0 = v.0 + 0 })
  km_by v = let z : v.0 ≡ v.0 + 0 = omega arith in let y : ◌≡◌ {A = VehicleKm} (record { 0 = v.0 }) (record { 0 = v.0 + 0 }) = cc in y

  km_other : (j : ℕ) → (j ≡ fuel → ⊥) → get_or run.km j (record { 0 = 0 }) ≡ km_after run rec j
  unfolding km_after km_of
  km_other j h = rw (ne_eqb j (fuel_of rec.class) (λ z. h (z ∙ sym ef))) (km_by _)

  kms_made : length run.km ≡ 3 → set run.km fuel (record { 0 = km_in run fuel + vehicle_km rec }) ≡ tab (km_after run rec) 3
  kms_made h =
      between
      (between_more fuel (fuel + 1) _ (between_none (record { 0 = 0 }) (km_after run rec) run.km 3 fuel fuel h refl) refl refl (omega arith) (omega arith) km_new)
      (λ j l out. km_other j (λ z. out (omega arith) (omega arith)))

  -- the run with the raised kilometres
  pub raised_km : length run.km ≡ 3 → record run { km = set run.km fuel (record { 0 = km_in run fuel + vehicle_km rec }) } ≡ with_km run rec
  raised_km h = ap (λ (km : List VehicleKm). record run { km = km }) (kms_made h)
