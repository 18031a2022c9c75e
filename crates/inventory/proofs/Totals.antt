-- Laws of printed kinds and totals. Assumes nothing.
use mathlib.Core.Path.{◌≡◌, ap, sym, ◌∙◌}
use mathlib.Core.Bool.{true, false}
use Prim.Native.Nat.{ℕ, ◌+◌, ◌*◌, ◌/◌, ◌%◌, ◌≤◌, ◌<◌}
use native.Mathlib.Omega.{arith}
use Rattle.units.specs.declared.Refusal.{Refusal}
use Rattle.units.specs.declared.Grams.{Grams}
use Rattle.units.specs.Refusals.{answer_number}
use Rattle.units.proofs.Refusals.{number_positive, taken_number, refused_number}
use Rattle.units.proofs.Grounds.{passed}
use Rattle.units.proofs.Tests.{inside_low, inside_high}
use borrow.Author.Tests.{not-false}
use Rattle.units.specs.Grounds.{first_fit, outside}
use Rattle.units.specs.Rounding.{half_up}
use Rattle.inventory.specs.declared.Run.{Run}
use Rattle.inventory.specs.Limits.{TotalLimits}
use Rattle.inventory.specs.Order.{in_order, sum_at, place, total_grams_in, total_rest_in}
use Rattle.inventory.proofs.Order.{sum_at_most, exact_most}
use Rattle.inventory.specs.Printed.{kind_place, printed_kind, printed_total, total_grounds, answered, printed_answer}
use Rattle.inventory.specs.declared.Kind.{Kind}
use Rattle.inventory.specs.declared.Kind.TheVariants as kinds
use Rattle.std.specs.Prelude.{Result, Ok, Err}

-- whole grams come out of half up
pub half_grams : (g r : ℕ) → g + (r + 500000000) / 1000000000 ≡ half_up (g * 1000000000 + r) 1000000000
unfolding half_up
half_grams g r = omega arith

-- the printed total from the stored one
pub total_made : (run : Run) → TotalLimits run → (fuel quantity k : ℕ) → fuel < 3 → quantity < 5 → k ≡ fuel * 5 + quantity
    → total_grams_in run k + (total_rest_in run k + 500000000) / 1000000000 ≡ printed_total run fuel quantity
unfolding printed_total
total_made run lim fuel quantity k a b e =
    let f : k / 5 ≡ fuel = omega arith in
    let q : k % 5 ≡ quantity = omega arith in
    half_grams _ _ ∙ ap (λ n. half_up n 1000000000) (rw (f, q) at (lim.exact k (omega arith)))

-- in a run in order a printed kind is at most 5 × 10^15 g, and a printed total at most 2 × 10^16 g
pub kind_most : (run : Run) → in_order run ≡ true → (fuel quantity kind : ℕ) → fuel < 3 → quantity < 5 → kind < 4
    → printed_kind run fuel quantity kind ≤ 5000000000000000
unfolding printed_kind half_up
kind_most run o fuel quantity kind a b d = omega (arith, sum_at_most run o (place fuel quantity kind) (omega arith))

pub total_most : (run : Run) → in_order run ≡ true → (fuel quantity : ℕ) → fuel < 3 → quantity < 5 → printed_total run fuel quantity ≤ 20000000000000000
unfolding printed_total half_up
total_most run o fuel quantity a b = omega (arith, exact_most run o fuel quantity a b)

-- a kind is one of four
pub kind_below : (kind : Kind) → kind_place kind < 4
kind_below kinds.Urban = omega arith
kind_below kinds.Rural = omega arith
kind_below kinds.Highway = omega arith
kind_below kinds.Cold = omega arith

-- the printed kind at its place
pub kind_made : (run : Run) (fuel quantity k : ℕ) (kind : Kind) (g : ℕ) → k ≡ kind_place kind
    → g ≡ half_up (sum_at run (fuel * 20 + quantity * 4 + k)) 1000000000 → g ≡ printed_kind run fuel quantity (kind_place kind)
unfolding printed_kind
kind_made run fuel quantity k kind g e h = rw (sym e) h

-- ---- the grounds of a question

module _ (run : Run) (fuel quantity : ℕ) where
  pub refused_order : in_order run ≡ false → 16 ≡ first_fit (total_grounds run fuel quantity)
  unfolding first_fit total_grounds
  refused_order o = rw o

  pub refused_fuel : in_order run ≡ true → outside 1 3 fuel ≡ true → 11 ≡ first_fit (total_grounds run fuel quantity)
  unfolding first_fit total_grounds
  refused_fuel o f = rw (o, f)

  pub refused_quantity : in_order run ≡ true → outside 1 3 fuel ≡ false → outside 1 5 quantity ≡ true
      → 11 ≡ first_fit (total_grounds run fuel quantity)
  unfolding first_fit total_grounds
  refused_quantity o f q = rw (o, f, q)

  pub asked : in_order run ≡ true → outside 1 3 fuel ≡ false → outside 1 5 quantity ≡ false → 0 ≡ first_fit (total_grounds run fuel quantity)
  unfolding first_fit total_grounds
  asked o f q = rw (o, f, q)

-- what a question has that no ground fits
pub record Asked (run : Run) (fuel quantity : ℕ) : Type 0 where
  pub order : in_order run ≡ true
  pub fuel_low : 1 ≤ fuel
  pub fuel_high : fuel ≤ 3
  pub quantity_low : 1 ≤ quantity
  pub quantity_high : quantity ≤ 5

pub asked_of : (run : Run) (fuel quantity : ℕ) → first_fit (total_grounds run fuel quantity) ≡ 0 → Asked run fuel quantity
unfolding total_grounds
asked_of run fuel quantity z =
    let p = passed (total_grounds run fuel quantity) tt z in
    record {
      order = not-false (in_order run) p.0;
      fuel_low = inside_low 1 3 fuel p.1.0;
      fuel_high = inside_high 1 3 fuel p.1.0;
      quantity_low = inside_low 1 5 quantity p.1.1.0;
      quantity_high = inside_high 1 5 quantity p.1.1.0;
    }

-- ---- the answer by the answer on its question

module _ {A : Type 0} (v : Result A Refusal) where
  pub answer_refused : (r : Refusal) (n g : ℕ) → v ≡ Err r → answer_number v ≡ n → printed_answer (Err r) ≡ answered n g
  unfolding printed_answer answered
  answer_refused r n g e h = rw (refused_number v r n e h, number_positive r)

  pub answer_given : (x : A) (n : ℕ) (g : Grams) (m : ℕ) → v ≡ Ok x → answer_number v ≡ n → g.0 ≡ m → printed_answer (Ok g) ≡ answered n m
  unfolding printed_answer answered
  answer_given x n g m e h k = rw (taken_number v x n e h, k)
