-- A run by its parts, and the lengths of its arrays. Assumes nothing.
use mathlib.Core.Path.{◌≡◌, refl, ap, sym}
use mathlib.Core.Bool.{Bool, true, false, cond}
use mathlib.Core.List.{List, []}
use Prim.Native.Nat.{ℕ, ◌<◌}
use lib.Dec.{eqb}
use lib.ListN.{length}
use Rattle.units.specs.declared.Grams.{Grams}
use Rattle.units.specs.declared.VehicleKm.{VehicleKm}
use Rattle.units.proofs.Tab.{tab_length, tab_of}
use Rattle.classes.specs.Classes.{x_count}
use Rattle.coldstart.specs.ColdStart.{cold_values}
use Rattle.inventory.specs.declared.Head.{Head}
use Rattle.inventory.specs.declared.Record.{Record}
use Rattle.inventory.specs.declared.Run.{Run}
use Rattle.inventory.specs.Adding.{total_made, total_grams_made, total_rest_made, with_totals, raised, run_with}
use Rattle.inventory.specs.Limits.{RunLimits, Shaped}
use Rattle.inventory.specs.Order.{sum_at, exact_total, total_ok}
use Rattle.inventory.proofs.Stored.{stored_grams, stored_rest}
use Rattle.inventory.specs.Opening.{no_rest, empty_run, fresh_run, zero_run, open_number, open_run}

pub by_parts : (p q : Run) → p.trip ≡ q.trip → p.x ≡ q.x → p.count ≡ q.count → p.km ≡ q.km → p.grams ≡ q.grams → p.rests ≡ q.rests
    → p.total_grams ≡ q.total_grams → p.total_rests ≡ q.total_rests → p ≡ q
by_parts p q a b c d e f g h =
    λ i. record { trip = a i; x = b i; count = c i; km = d i; grams = e i; rests = f i; total_grams = g i; total_rests = h i }

-- a run whose totals are in order stores those of its sums
pub totals_again : (run : Run) → ((k : ℕ) → k < 15 → total_ok run k ≡ true) → Shaped run → with_totals run ≡ run
unfolding with_totals
totals_again run ok s =
    by_parts _ _ refl refl refl refl refl refl
    (tab_of (record { 0 = 0 }) (total_grams_made run) run.total_grams 15 s.total_grams (λ k h. sym (stored_grams run k (ok k h))))
    (tab_of 0 (total_rest_made run) run.total_rests 15 s.total_rests (λ k h. sym (stored_rest run k (ok k h))))

-- runs that differ at most in their totals
pub totals_by : (p q : Run) → p.trip ≡ q.trip → p.x ≡ q.x → p.count ≡ q.count → p.km ≡ q.km → p.grams ≡ q.grams → p.rests ≡ q.rests
    → with_totals p ≡ with_totals q
unfolding with_totals total_made exact_total sum_at
totals_by p q a b c d e f =
    λ i. with_totals (record { trip = a i; x = b i; count = c i; km = d i; grams = e i; rests = f i; total_grams = []; total_rests = [] })

-- the limits of a run do not speak of its totals
pub limits_before : (run : Run) → RunLimits (with_totals run) → RunLimits run
unfolding with_totals
limits_before run lim =
    record { few = lim.few; x_most_lem = lim.x_most_lem; rest_below = lim.rest_below; grams_most = lim.grams_most; km_most = lim.km_most }

pub as_km : {n : ℕ} {v : VehicleKm} → n ≡ v.0 → ◌≡◌ {A = VehicleKm} (record { 0 = n }) v
as_km e = ap (λ n. record { 0 = n }) e

pub as_grams : {n : ℕ} {v : Grams} → n ≡ v.0 → ◌≡◌ {A = Grams} (record { 0 = n }) v
as_grams e = ap (λ n. record { 0 = n }) e

pub shaped-empty : (trip : ℕ) (xs : List ℕ) → length xs ≡ x_count → Shaped (empty_run trip xs)
unfolding empty_run
shaped-empty trip xs e =
    record { xs = e; kms = tab_length _ 3; grams = tab_length _ 60; rests = tab_length _ 60; total_grams = tab_length _ 15; total_rests = tab_length _ 15 }

pub shaped_opened : (head : Head) → Shaped (open_run head)
unfolding open_run fresh_run zero_run
shaped_opened head = by (eqb (open_number head) 0)
  where
    by : (b : Bool) → Shaped (cond b (fresh_run head) zero_run)
    by true = shaped-empty head.trip (cold_values head.period head.trip head.temps) (tab_length _ x_count)
    by false = shaped-empty 0 _ (tab_length no_rest x_count)

pub shaped_with : (run : Run) (rec : Record) → Shaped run → Shaped (run_with run rec)
unfolding run_with with_totals raised
shaped_with run rec s =
    record { xs = s.xs; kms = tab_length _ 3; grams = tab_length _ 60; rests = tab_length _ 60; total_grams = tab_length _ 15; total_rests = tab_length _ 15 }
