-- The first line of bytes, and its numbers, by places: what makes a search for LF needless. Assumes nothing.
use Prim.Native.Nat.{ℕ, zero, suc, ◌+◌, ◌-◌, ◌≤◌, ◌<◌}
use mathlib.Core.Path.{◌≡◌, refl, sym, ap, ◌∙◌}
use mathlib.Core.List.{List, [], ◌∷◌}
use mathlib.Core.Bool.{Bool, true, false, cond}
use Rattle.std.specs.Prelude.{Option, None, Some, option_and_then}
use native.Mathlib.Numerals.{add-one}
use native.Mathlib.Omega.{arith}
use lib.Dec.{ltb, eqb}
use lib.IntN.{ℤ}
use lib.ListN.{length, get_or, take, drop, length-drop}
use lib.Seq.{take_all, take-take, get_or-take, get_or-drop, length-take-le}
use borrow.Author.Tests.{ltb-true, ltb-false, eqb-true, eqb-false, eq-eqb, ne_eqb}
use Rattle.units.proofs.Tests.{and_left, and_right}
use Rattle.fields.proofs.RoundTrip.{lf_bad}
use Rattle.fields.specs.Field.{parse}
use Rattle.lines.specs.Lines.{glue, lines, first_of, total, shaped, fields, before, numbers_in, numbers_of}

-- ---- the first line

pub line_length : List ℕ → ℕ
line_length [] = 0
line_length (b ∷ bs) = cond (eqb b 10) 1 (suc (line_length bs))

first_by : (b : ℕ) (bs : List ℕ) (t : Bool) → lines bs ≡ take (line_length bs) bs ∷ lines (drop (line_length bs) bs)
    → glue b t (lines bs) ≡ take (cond t 1 (suc (line_length bs))) (b ∷ bs) ∷ lines (drop (cond t 1 (suc (line_length bs))) (b ∷ bs))
first_by b bs true e = refl
first_by b bs false e = ap (glue b false) e

alone : (b : ℕ) (t : Bool) → glue b t [] ≡ take (cond t 1 1) (b ∷ []) ∷ lines (drop (cond t 1 1) (b ∷ []))
unfolding lines
alone b true = refl
alone b false = refl

pub first_line_lem : (l : List ℕ) → 0 < length l → lines l ≡ take (line_length l) l ∷ lines (drop (line_length l) l)
unfolding lines line_length
first_line_lem [] h = absurd (omega arith)
first_line_lem (b ∷ []) h = alone b (eqb b 10)
first_line_lem (b ∷ d ∷ bs) h = first_by b (d ∷ bs) (eqb b 10) (first_line_lem (d ∷ bs) (omega arith))

pub short : (l : List ℕ) → line_length l ≤ length l
unfolding line_length
short [] = omega arith
short (b ∷ bs) = by (eqb b 10) (line_length bs) (length bs) (short bs)
  where
    by : (t : Bool) (n m : ℕ) → n ≤ m → cond t 1 (suc n) ≤ suc m
    by true n m h = omega arith
    by false n m h = omega arith

-- the first LF
Clear : ℕ → List ℕ → Type 0
Clear n l = (i : ℕ) → i < n → get_or l i 0 ≡ 10 → ⊥

line_of : (n : ℕ) (l : List ℕ) → n < length l → Clear n l → get_or l n 0 ≡ 10 → line_length l ≡ suc n
unfolding line_length Clear
line_of n [] h c e = absurd (omega arith)
line_of zero (b ∷ bs) h c e = rw (eq-eqb b 10 e)
line_of (suc n) (b ∷ bs) h c e = rw (ne_eqb b 10 (c 0 (omega arith)), line_of n bs (omega arith) (λ i l. c (suc i) (omega arith)) e)

-- the line ends at the first LF at the latest
pub lf_within : (n : ℕ) (l : List ℕ) → n < length l → get_or l n 0 ≡ 10 → line_length l ≤ suc n
unfolding line_length
lf_within n [] h e = absurd (omega arith)
lf_within zero (b ∷ bs) h e = rw (eq-eqb b 10 e) (omega arith)
lf_within (suc n) (b ∷ bs) h e = by (eqb b 10) (line_length bs) (lf_within n bs (omega arith) e)
  where
    by : (t : Bool) (m : ℕ) → m ≤ suc n → cond t 1 (suc m) ≤ suc (suc n)
    by true m k = omega arith
    by false m k = omega arith

-- the first line of any bytes, and its length
pub first_of-lines : (l : List ℕ) → first_of (lines l) ≡ take (line_length l) l
unfolding lines line_length
first_of-lines [] = refl
first_of-lines (b ∷ bs) = ap first_of (first_line_lem (b ∷ bs) (omega arith))

pub first_length : (l : List ℕ) → length (first_of (lines l)) ≡ line_length l
first_length l = ap length (first_of-lines l) ∙ length-take-le (line_length l) l (short l)

-- ---- the numbers of fields

none_some : {A : Type 0} {x : A} → None ≡ Some x → ⊥
none_some e = let z : ◌≡◌ {A = ℕ} 0 1 = cc in omega arith

pub before_back : {A : Type 0} (a : Option A) (b : Option (List A)) (zs : List A) → before a b ≡ Some zs
    → (z : A) × (rest : List A) × (a ≡ Some z) × (b ≡ Some rest) × (zs ≡ z ∷ rest)
before_back (Some z) (Some rest) zs e = (z, rest, refl, refl, cc)
before_back (Some z) None zs e = absurd (none_some e)
before_back None b zs e = absurd (none_some e)

pub then_back : {A B : Type 0} (o : Option A) (f : A → Option B) (y : B) → option_and_then f o ≡ Some y → (x : A) × (o ≡ Some x) × (f x ≡ Some y)
then_back None f y e = absurd (none_some e)
then_back (Some x) f y e = (x, refl, e)

-- as many numbers as widths
pub count_numbers : (ws l : List ℕ) (zs : List ℤ) → numbers_in (fields ws l) ≡ Some zs → length zs ≡ length ws
unfolding numbers_in fields
count_numbers [] l zs e = let q : [] ≡ zs = cc in rw (sym q)
count_numbers (w ∷ ws) l zs e =
    let p = before_back (parse (take w l)) (numbers_in (fields ws (drop w l))) zs e in
    rw p.4 (ap suc (count_numbers ws (drop w l) p.1 p.3))

-- a field with LF in it is no number
lf_none : (f : List ℕ) (i : ℕ) → i < length f → get_or f i 0 ≡ 10 → parse f ≡ None
lf_none f i h e = lf_bad f i h e

clear_step : (w n : ℕ) (l : List ℕ) (z : ℤ) → w + n ≤ length l → parse (take w l) ≡ Some z → Clear n (drop w l) → Clear (w + n) l
unfolding Clear
clear_step w n l z h p c i k b = by (ltb i w) refl
  where
    by : (t : Bool) → ltb i w ≡ t → ⊥
    by true o =
        let j : i < w = ltb-true i w o in
        let m : length (take w l) ≡ w = length-take-le w l (omega arith) in
        let v : i < length (take w l) = omega arith in
        none_some (sym (lf_none (take w l) i v (get_or-take w l i 0 j ∙ b)) ∙ p)
    by false o =
        let j : w ≤ i = ltb-false i w o in
        let m : w + (i - w) ≡ i = omega arith in
        c (i - w) (omega arith) (get_or-drop w l (i - w) 0 ∙ rw m b)

clear_fields : (ws l : List ℕ) (zs : List ℤ) → total ws ≤ length l → numbers_in (fields ws l) ≡ Some zs → Clear (total ws) l
unfolding numbers_in fields total Clear
clear_fields [] l zs h e = λ i k b. omega arith
clear_fields (w ∷ ws) l zs h e =
    let parts = before_back (parse (take w l)) (numbers_in (fields ws (drop w l))) zs e in
    clear_step w (total ws) l parts.0 h parts.2 (clear_fields ws (drop w l) parts.1 (rw length-drop (omega arith)) parts.3)

drop_take : (m n : ℕ) (l : List ℕ) → drop m (take (m + n) l) ≡ take n (drop m l)
drop_take zero n l = let e : 0 + n ≡ n = omega arith in rw e
drop_take (suc m) n [] = let e : suc m + n ≡ suc (m + n) = omega arith in rw e (nil n)
  where
    nil : (n : ℕ) → ◌≡◌ {A = List ℕ} [] (take n [])
    nil zero = refl
    nil (suc n) = refl
drop_take (suc m) n (b ∷ bs) = let e : suc m + n ≡ suc (m + n) = omega arith in rw e (drop_take m n bs)

fields_take : (ws l : List ℕ) (n : ℕ) → total ws ≤ n → fields ws (take n l) ≡ fields ws l
unfolding fields total
fields_take [] l n h = refl
fields_take (w ∷ ws) l n h =
    let m : n ≡ w + (n - w) = omega arith in
    let a : take w (take n l) ≡ take w l = take-take w n l (omega arith) in
    let d : drop w (take n l) ≡ take (n - w) (drop w l) = ap (λ (k : ℕ). drop w (take k l)) m ∙ drop_take w (n - w) l in
    rw (a, d) (ap (λ (fs : List (List ℕ)). take w l ∷ fs) (fields_take ws (drop w l) (n - w) (omega arith)))

-- ---- a line has one shape

pub numbers_back : (ws line : List ℕ) (zs : List ℤ) → numbers_of ws line ≡ Some zs → (shaped ws line ≡ true) × (numbers_in (fields ws line) ≡ Some zs)
unfolding numbers_of
numbers_back ws line zs e = by (shaped ws line) refl e
  where
    by : (t : Bool) → shaped ws line ≡ t → cond t (numbers_in (fields ws line)) None ≡ Some zs → (shaped ws line ≡ true) × (numbers_in (fields ws line) ≡ Some zs)
    by true p e = (p, e)
    by false p e = absurd (none_some e)

pub shaped_back : (ws line : List ℕ) → shaped ws line ≡ true → (length line ≡ total ws + 1) × (get_or line (total ws) 0 ≡ 10)
unfolding shaped
shaped_back ws line e =
    (eqb-true _ _ (and_left (eqb (length line) (total ws + 1)) _ e), eqb-true _ _ (and_right (eqb (length line) (total ws + 1)) _ e))

-- numbers of one form are none of a form of another width
pub other_form : (ws vs line : List ℕ) (zs : List ℤ) → numbers_of ws line ≡ Some zs → (total ws ≡ total vs → ⊥) → numbers_of vs line ≡ None
unfolding numbers_of shaped
other_form ws vs line zs e differ =
    let p = shaped_back ws line (numbers_back ws line zs e).0 in
    rw (ne_eqb (length line) (total vs + 1) (λ q. differ (omega (arith, p.0))))

-- ---- the numbers of the first line

module _ (ws l : List ℕ) where
  size : length (take (line_length l) l) ≡ line_length l
  size = length-take-le (line_length l) l (short l)

  -- a first line of the right shape ends where its fields do
  pub ends : shaped ws (take (line_length l) l) ≡ true → line_length l ≡ total ws + 1
  unfolding shaped
  ends e = sym size ∙ eqb-true _ _ (and_left (eqb (length (take (line_length l) l)) (total ws + 1)) _ e)

  lf_there : shaped ws (take (line_length l) l) ≡ true → get_or l (total ws) 0 ≡ 10
  unfolding shaped
  lf_there e =
      let k : total ws < line_length l = omega (arith, ends e) in
      sym (get_or-take (line_length l) l (total ws) 0 k) ∙ eqb-true _ _ (and_right (eqb (length (take (line_length l) l)) (total ws + 1)) _ e)

  misshapen : shaped ws (take (line_length l) l) ≡ false → numbers_of ws (take (line_length l) l) ≡ None
  unfolding numbers_of
  misshapen e = rw e

  -- either none, or those of the bytes at the places of its fields
  pub line_cases : (P : Option (List ℤ) → Type 0) → P None → P (numbers_in (fields ws l)) → P (numbers_of ws (take (line_length l) l))
  unfolding numbers_of
  line_cases P a b = by (shaped ws (take (line_length l) l)) refl
    where
      by : (t : Bool) → shaped ws (take (line_length l) l) ≡ t → P (cond t (numbers_in (fields ws (take (line_length l) l))) None)
      by true e = rw (fields_take ws l (line_length l) (omega (arith, ends e))) b
      by false e = a

  pub too_short : length l ≤ total ws → numbers_of ws (take (line_length l) l) ≡ None
  too_short h = by (shaped ws (take (line_length l) l)) refl
    where
      by : (t : Bool) → shaped ws (take (line_length l) l) ≡ t → numbers_of ws (take (line_length l) l) ≡ None
      by true e = absurd (omega (arith, ends e, short l))
      by false e = misshapen e

  pub no_lf : (get_or l (total ws) 0 ≡ 10 → ⊥) → numbers_of ws (take (line_length l) l) ≡ None
  no_lf h = by (shaped ws (take (line_length l) l)) refl
    where
      by : (t : Bool) → shaped ws (take (line_length l) l) ≡ t → numbers_of ws (take (line_length l) l) ≡ None
      by true e = absurd (h (lf_there e))
      by false e = misshapen e

  -- a line that ends before its fields do
  pub ends_before : (n : ℕ) → n < total ws → n < length l → get_or l n 0 ≡ 10 → numbers_of ws (take (line_length l) l) ≡ None
  ends_before n h k e = by (shaped ws (take (line_length l) l)) refl
    where
      by : (t : Bool) → shaped ws (take (line_length l) l) ≡ t → numbers_of ws (take (line_length l) l) ≡ None
      by true p = absurd (omega (arith, ends p, lf_within n l k e))
      by false p = misshapen p

  -- numbers with LF behind them are a line
  module _ (zs : List ℤ) (h : total ws < length l) (lf : get_or l (total ws) 0 ≡ 10) (e : numbers_in (fields ws l) ≡ Some zs) where
    pub whole_line : line_length l ≡ total ws + 1
    whole_line = line_of (total ws) l h (clear_fields ws l zs (omega arith) e) lf ∙ sym (add-one (total ws))

    pub line_numbers : numbers_of ws (take (line_length l) l) ≡ Some zs
    unfolding numbers_of shaped
    line_numbers =
        let k : total ws < line_length l = omega (arith, whole_line) in
        rw (eq-eqb _ _ (size ∙ whole_line), eq-eqb _ _ (get_or-take (line_length l) l (total ws) 0 k ∙ lf), fields_take ws l (line_length l) (omega arith)) e

  -- with LF behind its fields the line says what they do
  pub same_numbers : total ws < length l → get_or l (total ws) 0 ≡ 10 → numbers_of ws (take (line_length l) l) ≡ numbers_in (fields ws l)
  same_numbers h lf = by (numbers_in (fields ws l)) refl
    where
      by : (o : Option (List ℤ)) → numbers_in (fields ws l) ≡ o → numbers_of ws (take (line_length l) l) ≡ o
      by None e = line_cases (λ o. o ≡ None) refl e
      by (Some zs) e = line_numbers zs h lf e

  -- as many bytes as a line of this shape has say what the first line does
  pub chunk_numbers : numbers_of ws (take (total ws + 1) l) ≡ numbers_of ws (take (line_length l) l)
  unfolding numbers_of shaped
  chunk_numbers = by_length (ltb (total ws) (length l)) refl
    where
      by_lf : (t : Bool) → total ws < length l → eqb (get_or l (total ws) 0) 10 ≡ t → numbers_of ws (take (total ws + 1) l) ≡ numbers_of ws (take (line_length l) l)
      by_lf true h e =
          let lf : get_or l (total ws) 0 ≡ 10 = eqb-true _ _ e in
          rw (eq-eqb _ _ (length-take-le (total ws + 1) l (omega arith)), get_or-take (total ws + 1) l (total ws) 0 (omega arith), eq-eqb _ _ lf, fields_take ws l (total ws + 1) (omega arith))
          (sym (same_numbers h lf))
      by_lf false h e =
          let none : get_or l (total ws) 0 ≡ 10 → ⊥ = eqb-false _ _ e in
          rw (eq-eqb _ _ (length-take-le (total ws + 1) l (omega arith)), get_or-take (total ws + 1) l (total ws) 0 (omega arith), e) (sym (no_lf none))

      by_length : (t : Bool) → ltb (total ws) (length l) ≡ t → numbers_of ws (take (total ws + 1) l) ≡ numbers_of ws (take (line_length l) l)
      by_length true e = by_lf (eqb (get_or l (total ws) 0) 10) (ltb-true _ _ e) refl
      by_length false e =
          let h = ltb-false _ _ e in
          rw (take_all (total ws + 1) l (omega arith), ne_eqb (length l) (total ws + 1) (λ q. omega arith)) (sym (too_short h))
