-- The float that crosses to C where there is none. Assumes nothing.
use mathlib.Core.Path.{◌≡◌, refl}
use lib.Ieee.{binary64, of_bits, of_int}
use Rattle.map.specs.Floats.{float_of}

pub no_float : of_bits binary64 0 ≡ float_of 0
unfolding float_of of_bits of_int
no_float = refl
