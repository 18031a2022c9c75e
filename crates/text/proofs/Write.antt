-- What the loop of `write_number` leans on: a store at the place before the part that is written; the length of a field.
-- Assumes nothing.
use Prim.Native.Nat.{ℕ, zero, suc, ◌+◌, ◌-◌, ◌/◌, ◌%◌, ◌≤◌, ◌<◌}
use mathlib.Core.Path.{◌≡◌, refl, sym, ap, ◌∙◌}
use mathlib.Core.List.{List, [], ◌∷◌, ◌++◌, append_assoc}
use native.Mathlib.Nat.{le_of_suc-le-suc, not-suc-le-zero}
use native.Mathlib.Omega.{arith}
use lib.ListN.{length, drop, set, drop_of_length-le, length-append}
use Rattle.text.specs.Render.{glyph_of, pad, render}

pub drop_set : (f : List ℕ) (j v : ℕ) → j < length f → drop j (set f j v) ≡ v ∷ drop (suc j) f
drop_set [] j v h = absurd (not-suc-le-zero h)
drop_set (x ∷ f) zero v h = refl
drop_set (x ∷ f) (suc j) v h = drop_set f j v (le_of_suc-le-suc h)

-- a turn
pub turn : (f : List ℕ) (i m : ℕ) → 0 < i → i ≤ length f → pad (i - 1) (m / 10) ++ drop (i - 1) (set f (i - 1) (glyph_of m)) ≡ pad i m ++ drop i f
turn f i m p h =
    let e : suc (i - 1) ≡ i = omega arith in
    let b : i - 1 < length f = omega arith in
    ap (λ (l : List ℕ). pad (i - 1) (m / 10) ++ l) (drop_set f (i - 1) (glyph_of m) b)
    ∙ sym (append_assoc (pad (i - 1) (m / 10)) (glyph_of m ∷ []) (drop (suc (i - 1)) f))
    ∙ ap (λ (k : ℕ). pad k m ++ drop k f) e

-- the first store
pub first : (f : List ℕ) (n : ℕ) → 0 < length f → pad (length f - 1) (n / 10) ++ drop (length f - 1) (set f (length f - 1) (48 + n % 10)) ≡ render (length f) n
unfolding render
first f n p =
    let e : suc (length f - 1) ≡ length f = omega arith in
    let b : length f - 1 < length f = omega arith in
    let z : length f ≤ suc (length f - 1) = omega arith in
    ap (λ (l : List ℕ). pad (length f - 1) (n / 10) ++ l) (drop_set f (length f - 1) (48 + n % 10) b ∙ ap (λ (l : List ℕ). (48 + n % 10) ∷ l) (drop_of_length-le f z))
    ∙ ap (λ (k : ℕ). render k n) e

-- a field of no bytes
pub empty : (f : List ℕ) (n : ℕ) → length f ≡ 0 → f ≡ render (length f) n
unfolding render
empty [] n h = refl
empty (x ∷ f) n h = absurd (omega arith)

pub length_pad : (w n : ℕ) → length (pad w n) ≡ w
length_pad zero n = refl
length_pad (suc w) n =
    let e : length (pad w (n / 10)) ≡ w = length_pad w (n / 10) in
    length-append (pad w (n / 10)) (glyph_of n ∷ []) ∙ omega arith

pub length_render : (w n : ℕ) → length (render w n) ≡ w
unfolding render
length_render zero n = refl
length_render (suc w) n =
    let e : length (pad w (n / 10)) ≡ w = length_pad w (n / 10) in
    length-append (pad w (n / 10)) ((48 + n % 10) ∷ []) ∙ omega arith
