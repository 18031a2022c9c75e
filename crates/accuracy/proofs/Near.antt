-- How far billionths of a gram are from an exact fraction of a gram, summed up and rounded. Assumes nothing.
use mathlib.Core.Path.{◌≡◌, refl, sym, ap}
use mathlib.Core.Bool.{Bool, true, false, cond}
use Prim.Native.Nat.{ℕ, ◌+◌, ◌*◌, ◌≤◌}
use native.Mathlib.Nat.{mul-le-mul_right}
use native.Mathlib.Omega.{arith}
use lib.Dec.{eqb, lit<}
use borrow.Author.Tests.{eqb-true}
use Rattle.units.specs.Rounding.{half_up}
use Rattle.units.specs.Fractions.{Fraction, over, plus, WithinDistance}
use Rattle.units.proofs.Rounds.{half_up_high, half_up_low}
use Rattle.accuracy.specs.Claim.{allowance}

-- s billionths of a gram are at most 1.5 g per 10^7 of k kilometres from e: 150 billionths a kilometre, over any denominator
pub record Near (s : ℕ) (e : Fraction) (k : ℕ) : Type 0 where
  pub high : s * e.denominator ≤ e.numerator * 1000000000 + 150 * k * e.denominator
  pub low : e.numerator * 1000000000 ≤ s * e.denominator + 150 * k * e.denominator

-- two sums in one, over one denominator and over two
same_near : (s t k l n m d : ℕ) → Near s (over n d) k → Near t (over m d) l → Near (s + t) (over (n + m) d) (k + l)
same_near s t k l n m d p q = record { high = omega (arith, p.high, q.high); low = omega (arith, p.low, q.low) }

cross_near : (s t k l n m d c : ℕ) → Near s (over n d) k → Near t (over m c) l → Near (s + t) (over (n * c + m * d) (d * c)) (k + l)
cross_near s t k l n m d c p q =
    record {
      high = omega (arith, mul-le-mul_right c p.high, mul-le-mul_right d q.high);
      low = omega (arith, mul-le-mul_right c p.low, mul-le-mul_right d q.low);
    }

pub near_plus : (s t k l : ℕ) (e f : Fraction) → Near s e k → Near t f l → Near (s + t) (plus e f) (k + l)
unfolding plus
near_plus s t k l e f p q = by (eqb e.denominator f.denominator) refl
  where
    by : (b : Bool) → eqb e.denominator f.denominator ≡ b
        → Near (s + t) (cond b (over (e.numerator + f.numerator) e.denominator) (over (e.numerator * f.denominator + f.numerator * e.denominator) (e.denominator * f.denominator))) (k + l)
    by true h =
        let one : f ≡ over f.numerator e.denominator = ap (over f.numerator) (sym (eqb-true _ _ h)) in
        same_near s t k l e.numerator f.numerator e.denominator p (rw one at q)
    by false h = cross_near s t k l e.numerator f.numerator e.denominator f.denominator p q

-- rounded to grams: half a gram more
pub near_printed : (s k : ℕ) (e : Fraction) → Near s e k → WithinDistance (half_up s 1000000000) e (allowance k)
unfolding allowance plus
near_printed s k e h =
    let a = mul-le-mul_right e.denominator (half_up_high s 1000000000) in
    let b = mul-le-mul_right e.denominator (half_up_low s 1000000000 (lit< tt)) in
    record { high = omega (arith, h.high, a); low = omega (arith, h.low, b) }
