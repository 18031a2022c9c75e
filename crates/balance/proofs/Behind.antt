-- Grounds behind others: none fits both where none fits either. Assumes nothing.
use mathlib.Core.Path.{◌≡◌, refl, sym, ◌∙◌}
use mathlib.Core.Bool.{Bool, true, false, cond}
use mathlib.Core.List.{List, ◌++◌}
use Prim.Native.Nat.{ℕ}
use lib.Dec.{T, eqb}
use borrow.Author.Tests.{eqb-true, eqb-false}
use Rattle.units.specs.Grounds.{Ground, first_fit}
use Rattle.units.proofs.Grounds.{numbered, fit_append}

both_by : (b : Bool) (n m : ℕ) → eqb n 0 ≡ b → cond b m n ≡ 0 → (n ≡ 0) × (m ≡ 0)
both_by true n m e z = (eqb-true n 0 e, z)
both_by false n m e z = absurd (eqb-false n 0 e z)

pub both : (gs hs : List Ground) → T (numbered gs) → first_fit (gs ++ hs) ≡ 0 → (first_fit gs ≡ 0) × (first_fit hs ≡ 0)
both gs hs n z = both_by _ (first_fit gs) (first_fit hs) refl (sym (fit_append gs hs n) ∙ z)
