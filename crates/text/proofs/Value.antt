-- A field of w bytes says its number whole where the number is below 10^w.
-- Assumes nothing.
use Prim.Native.Nat.{ℕ, zero, suc, ◌+◌, ◌-◌, ◌*◌, ◌/◌, ◌%◌, ◌^◌, ◌<◌}
use mathlib.Core.Path.{◌≡◌, refl, sym, ap, ◌∙◌}
use mathlib.Core.List.{List, [], ◌∷◌, ◌++◌}
use mathlib.Core.Bool.{Bool, true, false, cond}
use native.Mathlib.Nat.{pow-succ'}
use native.Mathlib.Omega.{arith}
use lib.Dec.{eqb}
use borrow.Author.Tests.{eqb-true}
use Rattle.text.specs.Render.{glyph_of, pad, render, digits_value}

value_append : (a : ℕ) (xs ys : List ℕ) → digits_value a (xs ++ ys) ≡ digits_value (digits_value a xs) ys
value_append a [] ys = refl
value_append a (x ∷ xs) ys = value_append (10 * a + (x - 48)) xs ys

glyph_digit : (n : ℕ) (b : Bool) → eqb n 0 ≡ b → cond b 32 (48 + n % 10) - 48 ≡ n % 10
glyph_digit n true e = omega (arith, eqb-true n 0 e)
glyph_digit n false e = omega arith

pad_value : (w n : ℕ) → n < 10 ^ w → digits_value 0 (pad w n) ≡ n
pad_value zero n h = omega arith
pad_value (suc w) n h =
    let k : n < 10 * 10 ^ w = rw pow-succ' at h in
    let p : digits_value 0 (pad w (n / 10)) ≡ n / 10 = pad_value w (n / 10) (omega arith) in
    let g : glyph_of n - 48 ≡ n % 10 = glyph_digit n (eqb n 0) refl in
    value_append 0 (pad w (n / 10)) (glyph_of n ∷ []) ∙ omega arith

-- the bytes of a number read back are the number
pub read_back : (w n : ℕ) → n < 10 ^ w → digits_value 0 (render w n) ≡ n
unfolding render
read_back zero n h = omega arith
read_back (suc w) n h =
    let k : n < 10 * 10 ^ w = rw pow-succ' at h in
    let p : digits_value 0 (pad w (n / 10)) ≡ n / 10 = pad_value w (n / 10) (omega arith) in
    value_append 0 (pad w (n / 10)) ((48 + n % 10) ∷ []) ∙ omega arith

-- so no two numbers below 10^w have the same bytes
pub render_injective : (w n m : ℕ) → n < 10 ^ w → m < 10 ^ w → render w n ≡ render w m → n ≡ m
render_injective w n m h k e = sym (read_back w n h) ∙ ap (digits_value 0) e ∙ read_back w m k
