-- The reference inventory (SPECIFICATION, "Accuracy"; the request's tally on paper), fed a head and then records, never an answer.
-- Assumes nothing.
use Rattle.std.specs.Prelude.{ℕ, ◌+◌, ◌*◌, Bool, cond, ◌&&◌, List, [], ◌∷◌, eqb, ltb}
use Rattle.units.specs.Grounds.{first_fit}
use Rattle.units.specs.Fractions.{Fraction, over, plus}
use Rattle.classes.specs.Classes.{fuel_of, has_cold, beta_reduction}
use Rattle.calendar.specs.Periods.{period_weight}
use Rattle.coldstart.specs.ColdStart.{cold_sum, x_denominator}
use Rattle.inventory.specs.declared.Head.{Head}
use Rattle.inventory.specs.declared.Record.{Record}
use Rattle.inventory.specs.Records.{record_grounds, vehicle_km, share_of}
use Rattle.inventory.specs.Order.{record_limit}
use Rattle.inventory.specs.Adding.{factor_of}

-- acceptable: no number 3 to 8 fits the record, so none but 9 and 16 its add, in an area none but 18 and 16
unfoldable pub acceptable : Record → Bool
acceptable rec = eqb (first_fit (record_grounds rec)) 0

-- there is room for a record where n were accepted before it
unfoldable pub has_room : ℕ → Bool
has_room n = ltb n record_limit

-- accepted: acceptable, and there is room
unfoldable pub accepts : Bool → Record → Bool
accepts room rec = acceptable rec && room

-- the exact, never rounded E
abbrev pub exact_factor : Record → ℕ → ℕ → ℕ
exact_factor rec quantity road = factor_of rec quantity road

-- the sum of weight × B × Q of a head for a fuel and a quantity
abbrev pub cold_sum_of : Head → ℕ → ℕ → ℕ
cold_sum_of head fuel quantity = cold_sum head.period head.trip head.temps fuel quantity

-- what the period of a head weighs: 12 without dates, else its days
abbrev pub weight_of : Head → ℕ
weight_of head = period_weight head.period

-- the unrounded X of a class and a quantity: that sum over 1,000 × weight, times 72/100 for CO of class 3
abbrev pub exact_x : Head → ℕ → ℕ → Fraction
exact_x head class quantity = over (cold_sum_of head (fuel_of class) quantity * beta_reduction class quantity) (x_denominator (weight_of head))

-- the denominator of the exact sums, 10^16 times that of X, which all X of a head share; another head may have another
abbrev pub exact_denominator : Head → ℕ
exact_denominator head = 10000000000000000 * x_denominator (weight_of head)

-- the hot grams of the three roads, times 1,000,000,000
unfoldable pub exact_hot : Record → ℕ → ℕ
exact_hot rec quantity =
    vehicle_km rec * share_of rec 0 * exact_factor rec quantity 0
    + vehicle_km rec * share_of rec 1 * exact_factor rec quantity 1
    + vehicle_km rec * share_of rec 2 * exact_factor rec quantity 2

-- K × E(urban speed) × unrounded X, times the denominator of X, if the class has a cold part
unfoldable pub exact_cold : Head → Record → ℕ → ℕ
exact_cold head rec quantity =
    cond (has_cold rec.class) (vehicle_km rec * exact_factor rec quantity 0 * (exact_x head rec.class quantity).numerator) 0

-- what a record brings to a quantity of its fuel: hot over 10^9 plus cold over 10^16 times the denominator of X
unfoldable pub exact_of : Head → Record → ℕ → Fraction
exact_of head rec quantity =
    over (exact_hot rec quantity * (10000000 * (exact_x head rec.class quantity).denominator) + exact_cold head rec quantity)
    (10000000000000000 * (exact_x head rec.class quantity).denominator)

-- a fuel is 0 gasoline, 1 diesel, 2 LPG, a quantity 0 CO, 1 NOX, 2 VOC, 3 PM, 4 FC
pub record Reference : Type 0 where
  pub count : ℕ
  pub km : ℕ → ℕ
  pub exact : ℕ → ℕ → Fraction

-- all 0 at first
unfoldable pub empty : Head → Reference
empty head = record { count = 0; km = λ fuel. 0; exact = λ fuel quantity. over 0 (exact_denominator head) }

-- with an accepted record: the count rises by 1, its fuel's kilometres by K, and each of its fuel's five sums
unfoldable pub with_record : Head → Reference → Record → Reference
with_record head t rec =
    record {
      count = t.count + 1;
      km = λ fuel. cond (eqb fuel (fuel_of rec.class)) (t.km fuel + vehicle_km rec) (t.km fuel);
      exact = λ fuel quantity. cond (eqb fuel (fuel_of rec.class)) (plus (t.exact fuel quantity) (exact_of head rec quantity)) (t.exact fuel quantity);
    }

-- any other record changes nothing
unfoldable pub fed : Head → Reference → Record → Reference
fed head t rec = cond (accepts (has_room t.count) rec) (with_record head t rec) t

unfoldable pub reference_from : Head → Reference → List Record → Reference
reference_from head t [] = t
reference_from head t (rec ∷ recs) = reference_from head (fed head t rec) recs

-- the reference after a list of records
unfoldable pub reference_of : Head → List Record → Reference
reference_of head recs = reference_from head (empty head) recs

-- the accepted records of a list, in its order, where n were accepted before it
unfoldable pub accepted_from : ℕ → List Record → List Record
accepted_from n [] = []
accepted_from n (rec ∷ recs) = cond (accepts (has_room n) rec) (rec ∷ accepted_from (n + 1) recs) (accepted_from n recs)

unfoldable pub accepted : List Record → List Record
accepted recs = accepted_from 0 recs

-- the two records are the same: all their fields are
unfoldable pub same_record : Record → Record → Bool
same_record a b =
    eqb a.class b.class && eqb a.vehicles b.vehicles && eqb a.km b.km
    && eqb a.shares.urban b.shares.urban && eqb a.shares.rural b.shares.rural
    && eqb a.shares.highway b.shares.highway
    && eqb a.speeds.urban.0 b.speeds.urban.0 && eqb a.speeds.rural.0 b.speeds.rural.0
    && eqb a.speeds.highway.0 b.speeds.highway.0

-- how often a record occurs in a list
unfoldable pub occurs : Record → List Record → ℕ
occurs a [] = 0
occurs a (b ∷ l) = cond (same_record a b) 1 0 + occurs a l
