-- The first ground that fits a head, a record and an add, test by test. Assumes nothing.
use mathlib.Core.Path.{◌≡◌}
use mathlib.Core.Bool.{true, false}
use Prim.Native.Nat.{ℕ, ◌*◌, ◌≤◌, ◌<◌}
use native.Mathlib.Nat.{mul-le-mul}
use borrow.Author.Tests.{lt-ltb, le-ltb}
use Rattle.units.specs.Grounds.{first_fit, outside}
use Rattle.units.specs.Lists.{all_below}
use Rattle.units.proofs.Tests.{inside_high}
use Rattle.calendar.specs.Periods.{period_grounds}
use Rattle.inventory.specs.declared.Head.{Head}
use Rattle.inventory.specs.declared.Record.{Record}
use Rattle.inventory.specs.Records.{month_ok, temperatures_wrong, head_grounds, vehicle_km, shares_wrong, speeds_wrong, record_grounds}

-- ---- a head

module _ (head : Head) where
  pub bad_trip : outside 10 200 head.trip ≡ true → 1 ≡ first_fit (head_grounds head)
  unfolding head_grounds first_fit
  bad_trip h = rw h

  pub bad_temperature : outside 10 200 head.trip ≡ false → all_below (month_ok head) 12 ≡ false → 2 ≡ first_fit (head_grounds head)
  unfolding head_grounds first_fit temperatures_wrong
  bad_temperature h t = rw (h, t)

  pub by_period : outside 10 200 head.trip ≡ false → all_below (month_ok head) 12 ≡ true → first_fit (period_grounds head.period) ≡ first_fit (head_grounds head)
  unfolding head_grounds first_fit temperatures_wrong
  by_period h t = rw (h, t)

-- ---- a record

module _ (rec : Record) where
  pub bad_class : outside 1 7 rec.class ≡ true → 3 ≡ first_fit (record_grounds rec)
  unfolding first_fit record_grounds
  bad_class h = rw h

  module _ (class : outside 1 7 rec.class ≡ false) where
    pub bad_vehicles : outside 1 1000000 rec.vehicles ≡ true → 4 ≡ first_fit (record_grounds rec)
    unfolding first_fit record_grounds
    bad_vehicles h = rw (class, h)

    module _ (vehicles : outside 1 1000000 rec.vehicles ≡ false) where
      pub bad_km : outside 1 999999 rec.km ≡ true → 5 ≡ first_fit (record_grounds rec)
      unfolding first_fit record_grounds
      bad_km h = rw (class, vehicles, h)

      module _ (km : outside 1 999999 rec.km ≡ false) where
        pub bad_distance : 1000000000 < rec.vehicles * rec.km → 6 ≡ first_fit (record_grounds rec)
        unfolding first_fit record_grounds vehicle_km
        bad_distance h = rw (class, vehicles, km, lt-ltb _ _ h)

        module _ (distance : rec.vehicles * rec.km ≤ 1000000000) where
          pub bad_shares : shares_wrong rec ≡ true → 7 ≡ first_fit (record_grounds rec)
          unfolding first_fit record_grounds vehicle_km
          bad_shares h = rw (class, vehicles, km, le-ltb _ _ distance, h)

          module _ (shares : shares_wrong rec ≡ false) where
            pub bad_speeds : speeds_wrong rec ≡ true → 8 ≡ first_fit (record_grounds rec)
            unfolding first_fit record_grounds vehicle_km
            bad_speeds h = rw (class, vehicles, km, le-ltb _ _ distance, shares, h)

            pub good_record : speeds_wrong rec ≡ false → 0 ≡ first_fit (record_grounds rec)
            unfolding first_fit record_grounds vehicle_km
            good_record h = rw (class, vehicles, km, le-ltb _ _ distance, shares, h)

-- K stays in 64 bits
pub distance_fits : (v k : ℕ) → outside 1 1000000 v ≡ false → outside 1 999999 k ≡ false → v * k ≤ 999999000000
distance_fits v k a b = mul-le-mul (inside_high 1 1000000 v a) (inside_high 1 999999 k b)
