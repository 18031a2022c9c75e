-- One number more. Assumes nothing.
use Rattle.std.proofs.Common.{◌≡◌, ℕ, ◌+◌, ◌∷◌, ◌++◌, arith, add-one}
use Rattle.std.specs.Fmt.{decimal}
use Rattle.std.proofs.lemmas.Grind.{common_steps}
use Rattle.units.specs.Lists.{tab}
use Rattle.harness_prints.specs.Prints.{numbers_text}

pub numbers_more : (f : ℕ → ℕ) (n : ℕ) → numbers_text (tab f (n + 1)) ≡ numbers_text (tab f n) ++ (32 ∷ decimal (f n))
unfolding tab
numbers_more f n = rw add-one (grind (arith, common_steps))
