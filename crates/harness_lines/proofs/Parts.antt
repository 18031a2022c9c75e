-- The two parts of a text, by the place that a search found, and its lines one by one. Assumes nothing.
use Rattle.std.proofs.Common.{◌≡◌, ℕ, zero, suc, ◌+◌, ◌-◌, ◌==◌, Bool, true, false, Some, None, List, [], ◌∷◌, ◌<◌, length, take, drop, refl, ap, ◌∙◌, arith}
use Rattle.std.specs.List.{position, position_or_len, before_first, after_first}
use Rattle.std.proofs.lemmas.List.Sums.{prefix_len-le-length}
use Rattle.harness_lines.specs.Lines.{part_behind, from_lines}
use Rattle.std.proofs.lemmas.Grind.{common_steps}

module _ (p : ℕ → Bool) (xs : List ℕ) where
  place_found : (n : ℕ) → position p xs ≡ Some n → n ≡ position_or_len p xs
  place_found n h = grind (arith, common_steps)

  pub before_found : (n : ℕ) → position p xs ≡ Some n → take n xs ≡ before_first p xs
  before_found n h = rw (place_found n h) refl

  pub behind_found : (n : ℕ) → position p xs ≡ Some n → take (length xs - (n + 1)) (drop (n + 1) xs) ≡ after_first p xs
  behind_found n h = rw (place_found n h) (grind (arith, common_steps))

  pub before_none : position p xs ≡ None → xs ≡ before_first p xs
  before_none h = grind (arith, common_steps, prefix_len-le-length)

  pub behind_none : position p xs ≡ None → [] ≡ after_first p xs
  behind_none h = grind (arith, common_steps, prefix_len-le-length)

-- ---- the lines

-- behind a byte of a line, by whether it ends the line
skip : (c : ℕ) (cs : List ℕ) (b : Bool) → (c == 10) ≡ b → from_lines false cs ≡ from_lines true (part_behind 10 cs) → from_lines b cs ≡ from_lines true (part_behind 10 (c ∷ cs))
skip c cs true e more = grind (arith, common_steps)
skip c cs false e more = more ∙ ap (from_lines true) (grind (arith, common_steps))

-- from within a line on, the lines are those behind its end
behind_line : (bytes : List ℕ) → from_lines false bytes ≡ from_lines true (part_behind 10 bytes)
unfolding from_lines
behind_line [] = refl
behind_line (c ∷ cs) = skip c cs (c == 10) refl (behind_line cs)

lines_next : (bytes : List ℕ) → 0 < length bytes → from_lines true bytes ≡ bytes ∷ from_lines true (part_behind 10 bytes)
unfolding from_lines
lines_next [] h = absurd (omega arith)
lines_next (c ∷ cs) h = ap (λ more. (c ∷ cs) ∷ more) (skip c cs (c == 10) refl (behind_line cs))

pub lines_none : (n : ℕ) (bytes : List ℕ) → length bytes ≡ 0 → take n (from_lines true bytes) ≡ []
unfolding from_lines
lines_none zero [] h = refl
lines_none (suc n) [] h = refl
lines_none n (c ∷ cs) h = absurd (omega arith)

-- of at most 100,000 lines, line k and those behind it
pub line_here : (k : ℕ) (bytes : List ℕ) → k < 100000 → 0 < length bytes → take (100000 - k) (from_lines true bytes) ≡ bytes ∷ take (100000 - (k + 1)) (from_lines true (part_behind 10 bytes))
line_here k bytes l h = let e : 100000 - k ≡ suc (100000 - (k + 1)) = omega arith in rw (e, lines_next bytes h) refl
