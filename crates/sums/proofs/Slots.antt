-- The four sums of a quantity, as `add_sums` computes them from the 15 factors f of the record. Assumes nothing.
use mathlib.Core.Path.{◌≡◌, ap, ◌∙◌}
use mathlib.Core.Bool.{cond}
use mathlib.Core.List.{List}
use Prim.Native.Nat.{ℕ, ◌+◌, ◌*◌, ◌/◌, ◌%◌, ◌≤◌, ◌<◌}
use native.Mathlib.Omega.{arith}
use lib.ListN.{get_or}
use Rattle.units.specs.Lists.{tab}
use Rattle.classes.specs.Classes.{fuel_of, has_cold}
use Rattle.factors.specs.Factors.{factor_at}
use Rattle.factors.proofs.Factors.{factor_read}
use Rattle.coldstart.specs.ColdStart.{cold_factor}
use Rattle.inventory.specs.declared.Amount.{Amount}
use Rattle.inventory.specs.declared.Record.{Record}
use Rattle.inventory.specs.declared.Run.{Run}
use Rattle.inventory.specs.Records.{vehicle_km, share_of, speed_of}
use Rattle.inventory.specs.Order.{grams_in, rest_in}
use Rattle.inventory.specs.Limits.{RecordLimits, RunLimits}
use Rattle.inventory.specs.Adding.{billionths, factor_of, x_of, cold_rate, slot_after}
use Rattle.inventory.proofs.Adding.{factor_high, rate_most, hot_slot, cold_slot}

-- the 15 factors of a record
abbrev pub Factors : Record → List ℕ → Type 0
Factors rec f = f ≡ tab (factor_at rec.class (speed_of rec 0) (speed_of rec 1) (speed_of rec 2)) 15

module _ (rec : Record) (f : List ℕ) (given : Factors rec f) (q : ℕ) (hq : q < 5) where
  factor_is : (road i : ℕ) → road < 3 → i ≡ q * 3 + road → get_or f i 0 ≡ factor_of rec q road
  factor_is road i h e = factor_read rec.class (speed_of rec 0) (speed_of rec 1) (speed_of rec 2) f q road i given hq h e

  factor_small : RecordLimits rec → (road i : ℕ) → road < 3 → i ≡ q * 3 + road → get_or f i 0 ≤ 2000000000
  factor_small lim road i h e = rw (factor_is road i h e) (factor_high rec lim q road hq h)

  module _ (run : Run) (fuel : ℕ) (ef : fuel ≡ fuel_of rec.class) where
    rate_is : (c : ℕ) → c ≡ cond (has_cold rec.class) (cold_factor (get_or f (q * 3) 0) (x_of run.x rec.class q)) 0 → c ≡ cold_rate run.x rec q
    unfolding cold_rate
    rate_is c e = rw (← factor_is 0 (q * 3) (omega arith) (omega arith)) e

    pub rate_small : RecordLimits rec → RunLimits run → (c : ℕ)
        → c ≡ cond (has_cold rec.class) (cold_factor (get_or f (q * 3) 0) (x_of run.x rec.class q)) 0 → c ≤ 9800000000
    rate_small lim r c e = rw (rate_is c e) (rate_most rec lim run.x r.x_most_lem q hq)

    pub hot_made : (road i j : ℕ) (s : Amount) → road < 3 → i ≡ q * 3 + road → j ≡ fuel * 20 + q * 4 + road
        → s ≡ billionths (grams_in run j * 1000000000 + rest_in run j + rec.vehicles * rec.km * share_of rec road * get_or f i 0) → s ≡ slot_after run rec j
    unfolding slot_after vehicle_km
    hot_made road i j s h ei ej e =
        e ∙ ap billionths (rw (factor_is road i h ei) (hot_slot run rec fuel q ef hq road j h ej))

    pub cold_made : (j c : ℕ) (s : Amount) → j ≡ fuel * 20 + q * 4 + 3
        → c ≡ cond (has_cold rec.class) (cold_factor (get_or f (q * 3) 0) (x_of run.x rec.class q)) 0
        → s ≡ billionths (grams_in run j * 1000000000 + rest_in run j + rec.vehicles * rec.km * c * 100) → s ≡ slot_after run rec j
    unfolding slot_after vehicle_km
    cold_made j c s ej ec e = e ∙ ap billionths (rw (rate_is c ec) (cold_slot run rec fuel q ef hq j ej))

-- each of the 15 factors is small
pub factor_most : (rec : Record) (f : List ℕ) → Factors rec f → RecordLimits rec → (i : ℕ) → i < 15 → get_or f i 0 ≤ 2000000000
factor_most rec f given lim i h = factor_small rec f given (i / 3) (omega arith) lim (i % 3) i (omega arith) (omega arith)
