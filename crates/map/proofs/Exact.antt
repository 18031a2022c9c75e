-- A whole number below 2 ^ 53 as a 64-bit float: nothing is lost. Assumes nothing.
use mathlib.Core.Path.{◌≡◌, refl}
use mathlib.Core.Bool.{false}
use Prim.Native.Nat.{ℕ, ◌^◌, ◌<◌}
use native.Mathlib.Nat.{le_of_lt, lt_of_lt_of_le}
use lib.Dec.{T, le→leb, lit≤}
use lib.IntN.{pos}
use lib.Ieee.{binary64, of_int, in_float, to_unsigned}
use lib.Ieee.Back.{round_whole, unsigned_back}
use Rattle.map.specs.Floats.{float_of, Exactly}

pub holds : (n : ℕ) → n < 2 ^ 53 → T (in_float binary64 (pos n))
unfolding in_float
holds n h = le→leb n (2 ^ 53) (le_of_lt h)

pub exactly : (n : ℕ) → n < 2 ^ 53 → Exactly n (of_int binary64 (pos n))
unfolding of_int float_of
exactly n h = record { same = refl; value = round_whole binary64 false n (le_of_lt h) }

-- read back as a u64, it is n again
pub float_back : (n : ℕ) → n < 2 ^ 53 → to_unsigned 64 (float_of n) ≡ n
unfolding float_of
float_back n h = (unsigned_back binary64 64 n (holds n h) (lt_of_lt_of_le h (lit≤ tt))).1
