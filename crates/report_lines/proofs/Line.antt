-- Laws of one line of the report. Assumes nothing.
use Prim.Native.Nat.{ℕ, zero, suc, ◌+◌, ◌/◌, ◌%◌, ◌≤◌, ◌<◌}
use mathlib.Core.Path.{◌≡◌, refl, ap, ◌∙◌}
use mathlib.Core.Bool.{Bool, true, false, cond}
use mathlib.Core.List.{List, [], ◌∷◌}
use native.Mathlib.Omega.{arith}
use lib.Dec.{eqb}
use borrow.Rule.Slice.PartMut.{put_mid, mid_of}
use lib.ListN.{length, set, length-append}
use borrow.Author.Tests.{eq-eqb, ne_eqb}
use Rattle.text.specs.Render.{render}
use Rattle.text.proofs.Write.{length_render}
use Rattle.figures.specs.declared.Row.{Row}
use Rattle.report_lines.proofs.Stores.{Wrote, start, part, number, byte}
use Rattle.report_lines.specs.Line.{name_of, line_of, line_at}

pub length_name : (quantity : ℕ) → quantity < 5 → length (name_of quantity) ≡ 4
length_name zero h = refl
length_name (suc zero) h = refl
length_name (suc (suc zero)) h = refl
length_name (suc (suc (suc zero))) h = refl
length_name (suc (suc (suc (suc zero)))) h = refl
length_name (suc (suc (suc (suc (suc n))))) h = absurd (omega arith)

-- the calls of `write_figures`, one behind the other
module _ (fuel quantity : ℕ) (row : Row) (b f name urban rural highway cold total : List ℕ) (q : quantity < 5) (h : 97 ≤ length b) where
  abbrev to_highway : List ℕ
  to_highway = put_mid 42 18 (put_mid 24 18 (put_mid 6 18 (put_mid 2 4 (put_mid 0 2 b f) name) urban) rural) highway

  pub line : f ≡ render (length (mid_of 0 2 b)) fuel → name ≡ name_of quantity
      → urban ≡ render (length (mid_of 6 18 (put_mid 2 4 (put_mid 0 2 b f) name))) row.urban.0
      → rural ≡ render (length (mid_of 24 18 (put_mid 6 18 (put_mid 2 4 (put_mid 0 2 b f) name) urban))) row.rural.0
      → highway ≡ render (length (mid_of 42 18 (put_mid 24 18 (put_mid 6 18 (put_mid 2 4 (put_mid 0 2 b f) name) urban) rural))) row.highway.0
      → cold ≡ render (length (mid_of 60 18 to_highway)) row.cold.0 → total ≡ render (length (mid_of 78 18 (put_mid 60 18 to_highway cold))) row.total.0
      → Wrote b (line_of fuel quantity row) 97 (set (put_mid 78 18 (put_mid 60 18 to_highway cold) total) 96 10)
  unfolding line_of
  line e1 e2 e3 e4 e5 e6 e7 =
      let w1 = number 2 (start b) (omega arith) fuel f e1 in
      let w2 = part (name_of quantity) 4 w1 (length_name quantity q) (omega arith) name e2 in
      let w3 = number 18 w2 (omega arith) row.urban.0 urban e3 in
      let w4 = number 18 w3 (omega arith) row.rural.0 rural e4 in
      let w5 = number 18 w4 (omega arith) row.highway.0 highway e5 in
      let w6 = number 18 w5 (omega arith) row.cold.0 cold e6 in
      let w7 = number 18 w6 (omega arith) row.total.0 total e7 in
      byte 10 w7 (omega arith)

pub length_line : (fuel quantity : ℕ) (row : Row) → quantity < 5 → length (line_of fuel quantity row) ≡ 97
unfolding line_of
length_line fuel quantity row h =
    simp (length-append, length_render, length_name quantity h) (omega arith)

-- the two cases of a line
pub left_out : (k : ℕ) (row : Row) → row.total.0 ≡ 0 → line_at k row ≡ []
unfolding line_at
left_out k row e = simp (eq-eqb row.total.0 0 e)

pub printed : (k : ℕ) (row : Row) → (row.total.0 ≡ 0 → ⊥) → line_at k row ≡ line_of (k / 5 + 1) (k % 5) row
unfolding line_at
printed k row e = simp (ne_eqb row.total.0 0 e)

pub length_printed : (k : ℕ) (row : Row) → (row.total.0 ≡ 0 → ⊥) → length (line_at k row) ≡ 97
length_printed k row e = ap length (printed k row e) ∙ length_line (k / 5 + 1) (k % 5) row (omega arith)

pub no_byte : (l : List ℕ) → length l ≡ 0 → l ≡ []
no_byte [] h = refl
no_byte (x ∷ l) h = absurd (omega arith)

-- a line or none
length_cond : (b : Bool) (u : List ℕ) → length u ≡ 97 → length (cond b [] u) ≤ 97
length_cond true u e = omega arith
length_cond false u e = omega arith

pub line_most : (k : ℕ) (row : Row) → length (line_at k row) ≤ 97
unfolding line_at
line_most k row = length_cond (eqb row.total.0 0) _ (length_line (k / 5 + 1) (k % 5) row (omega arith))
