-- Digits one by one, and a number by its sign. Assumes nothing.
use Rattle.std.proofs.Common.{◌≡◌, ℕ, ◌+◌, ◌-◌, ◌<◌, ◌≤◌, true, false, List, ◌∷◌, length, get_or, drop, add-one, drop-cons}
use lib.ListN.{drop_of_length-le}
use borrow.Author.Tests.{eq-eqb, ne_eqb}
use Rattle.units.specs.Grounds.{outside}
use Rattle.harness_lines.specs.Lines.{with_digit, digits_of, as_positive, as_negative, signed_of}

module _ (b : List ℕ) (i n : ℕ) where
  pub digits_next : i < length b → outside 48 57 (get_or b i 0) ≡ false → digits_of (with_digit n (get_or b i 0 - 48)) (drop (i + 1) b) ≡ digits_of n (drop i b)
  unfolding digits_of
  digits_next h o = rw (add-one, drop-cons b i 0 h, o)

  pub digits_here : i < length b → outside 48 57 (get_or b i 0) ≡ true → n ≡ digits_of n (drop i b)
  unfolding digits_of
  digits_here h o = rw (drop-cons b i 0 h, o)

  pub digits_behind : length b ≤ i → n ≡ digits_of n (drop i b)
  unfolding digits_of
  digits_behind h = rw drop_of_length-le

pub signed_minus : (c : ℕ) (cs : List ℕ) → c ≡ 45 → signed_of (c ∷ cs) ≡ as_negative (digits_of 0 cs)
unfolding signed_of
signed_minus c cs e = rw (eq-eqb c 45 e)

pub signed_plain : (c : ℕ) (cs : List ℕ) → (c ≡ 45 → ⊥) → signed_of (c ∷ cs) ≡ as_positive (digits_of 0 (c ∷ cs))
unfolding signed_of
signed_plain c cs n = rw (ne_eqb c 45 n)
