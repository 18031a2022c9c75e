-- Products that omega does not see. Assumes nothing.
use mathlib.Core.Path.{◌≡◌, ap, sym, ◌∙◌}
use Prim.Native.Nat.{ℕ, ◌+◌, ◌*◌, ◌-◌, ◌/◌, ◌%◌, ◌≤◌, ◌<◌}
use native.Mathlib.Nat.{add-mul, mul_right_comm, div-add-mod', mul-le-mul}
use native.Mathlib.Omega.{arith}
use Rattle.inventory.specs.declared.Amount.{Amount}
use Rattle.inventory.specs.Adding.{billionths}

-- a × e, by the parts of a at d
pub split : (a e d : ℕ) → a * e ≡ a / d * e * d + a % d * e
split a e d = ap (λ (n : ℕ). n * e) (sym (div-add-mod' a d)) ∙ rw (add-mul, mul_right_comm (a / d) d e)

-- what fits in `hot`
pub hot_fits : (k s e : ℕ) → k ≤ 1000000000 → s ≤ 100 → e ≤ 2000000000
    → (k * s ≤ 100000000000) × (k * s % 1000000000 * e ≤ 2000000000000000000) × (k * s / 1000000000 * e ≤ 200000000000)
hot_fits k s e hk hs he =
    let a : k * s ≤ 100000000000 = mul-le-mul hk hs in
    let low : k * s % 1000000000 ≤ 1000000000 = omega arith in
    let high : k * s / 1000000000 ≤ 100 = omega arith in
    (a, mul-le-mul low he, mul-le-mul high he)

-- what fits in `cold`
pub cold_fits : (k f : ℕ) → k ≤ 1000000000 → f ≤ 9800000000 → k * f ≤ 9800000000000000000
cold_fits k f a b = mul-le-mul a b

-- an amount by its parts
pub amount : {g h r s : ℕ} → g ≡ h → r ≡ s → ◌≡◌ {A = Amount} (record { grams = record { 0 = g }; rest = r }) (record { grams = record { 0 = h }; rest = s })
amount p q = cc

-- a sum with a carry, and without one
module _ (m s : ℕ) where
  pub plain : s < 1000000000 → ◌≡◌ {A = Amount} (record { grams = record { 0 = m }; rest = s }) (billionths (m * 1000000000 + s))
  unfolding billionths
  plain h = amount (omega arith) (omega arith)

  pub carry : 1000000000 ≤ s → s < 2000000000
      → ◌≡◌ {A = Amount} (record { grams = record { 0 = m + 1 }; rest = s - 1000000000 }) (billionths (m * 1000000000 + s))
  unfolding billionths
  carry h l = amount (omega arith) (omega arith)

-- the code's sums of a hot and of a cold amount
pub hot_made : (g r a e : ℕ)
    → (g + (a / 1000000000 * e + a % 1000000000 * e / 1000000000)) * 1000000000 + (r + a % 1000000000 * e % 1000000000) ≡ g * 1000000000 + r + a * e
hot_made g r a e = omega (arith, split a e 1000000000)

pub cold_made : (g r n : ℕ) → (g + n / 10000000) * 1000000000 + (r + n % 10000000 * 100) ≡ g * 1000000000 + r + n * 100
cold_made g r n = omega arith
