-- What is printed of a float, by the two tests. Assumes nothing.
use Rattle.std.proofs.Common.{◌≡◌, refl, true, false, ◌∷◌, []}
use Rattle.std.specs.Float.{Float, minus_one, two_to, float_to_unsigned}
use Rattle.std.specs.Int.{w64}
use lib.Ieee.{lt}
use Rattle.harness_prints.specs.Prints.{whole_text, float_text}

pub float_text-whole : (x : Float) → lt minus_one x ≡ true → lt x (two_to 64) ≡ true → float_text x ≡ whole_text x (float_to_unsigned w64 x)
float_text-whole x above below = rw (above, below) refl

pub float_text-low : (x : Float) → lt minus_one x ≡ false → float_text x ≡ 46 ∷ []
float_text-low x low = rw low refl

pub float_text-high : (x : Float) → lt minus_one x ≡ true → lt x (two_to 64) ≡ false → float_text x ≡ 46 ∷ []
float_text-high x above high = rw (above, high) refl
