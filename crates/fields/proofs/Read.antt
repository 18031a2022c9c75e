-- What the readers lean on: one byte more at a place, more than nine digits, digits behind a minus. Assumes nothing.
use Prim.Native.Nat.{ℕ, zero, suc, ◌+◌, ◌-◌, ◌*◌, ◌^◌, ◌≤◌, ◌<◌}
use mathlib.Core.Path.{◌≡◌, refl, sym, ap, ◌∙◌}
use mathlib.Core.List.{List, [], ◌∷◌}
use mathlib.Core.Bool.{Bool, true, false, not, cond, ◌&&◌}
use native.Mathlib.Nat.{pow-succ', pow-le-pow_right}
use native.Mathlib.Numerals.{add-one}
use native.Mathlib.Omega.{arith}
use lib.Dec.{ltb, leb, eqb}
use lib.ListN.{length, get_or, drop, drop_of_length-le}
use lib.Seq.{drop-cons, take-length}
use lib.IntN.{◌-ℤ◌, +ℤ_idl}
use mir.Syntax.{w64}
use mir.Val.{SFits, to_z, of_z}
use mir.Facts.{to_z_pos, to_z-of_z}
use borrow.Author.Tests.{lt-ltb, le-leb, lt-leb, ne_eqb, leb-true, leb-false, ltb-true, eqb-true, eqb-false}
use Rattle.std.specs.Prelude.{ℤ, pos, negsuc, neg_ℤ, Option, Some, None, take, option_and_then}
use Rattle.std.specs.Bool.{then_some}
use Rattle.fields.specs.Field.{State, blank, signed, digits, wrong, is_digit, first_digit, step, scan, said, parse, count_of, count_in}
use Rattle.fields.specs.Reading.{digits_said, begun, Spaces}

pub and_both : (a b : Bool) → (a && b) ≡ true → (a ≡ true) × (b ≡ true)
and_both true b e = (refl, e)
and_both false b e = let z : ◌≡◌ {A = ℕ} 0 1 = cc in absurd (omega arith)

pub digit_low : (b : ℕ) → b < 48 → is_digit b ≡ false
digit_low b h = rw (lt-leb 48 b h)

pub digit_in : (b : ℕ) → 48 ≤ b → b ≤ 57 → is_digit b ≡ true
digit_in b l h = rw (le-leb 48 b l, le-leb b 57 h)

pub digit_back : (b : ℕ) → is_digit b ≡ true → (48 ≤ b) × (b ≤ 57)
digit_back b e = let p = and_both (leb 48 b) (leb b 57) e in (leb-true 48 b p.0, leb-true b 57 p.1)

-- from a wrong beginning nothing leads back
pub scan_wrong : (bs : List ℕ) → scan wrong bs ≡ wrong
unfolding scan
scan_wrong [] = refl
scan_wrong (b ∷ bs) = scan_wrong bs

-- the power that at most m digits stay below
pub below : (m n k : ℕ) → n < 10 ^ k → k ≤ m → n < 10 ^ m
below m n k h l = let p : 10 ^ k ≤ 10 ^ m = pow-le-pow_right (omega arith) l in omega arith

-- ---- more than nine digits

-- a number of k digits more than one, and more bytes behind it than it may have
long_step : (k n b : ℕ) (bs : List ℕ) → 10 ^ k ≤ n → k ≤ 8 → (k ≤ 7 → (m : ℕ) → 10 ^ suc k ≤ m → said (scan (digits false m) bs) ≡ None)
    → (t : Bool) → (is_digit b && not (eqb n 0) && ltb n 100000000) ≡ t → said (scan (cond t (digits false (n * 10 + (b - 48))) wrong) bs) ≡ None
long_step k n b bs h l again true e =
    let s : n < 100000000 = ltb-true n 100000000 (and_both (is_digit b && not (eqb n 0)) (ltb n 100000000) e).1 in
    let k7 : k ≤ 7 = by (leb k 7) refl s in
    again k7 (n * 10 + (b - 48)) (rw pow-succ' (omega arith))
  where
    by : (t : Bool) → leb k 7 ≡ t → n < 100000000 → k ≤ 7
    by true e s = leb-true k 7 e
    by false e s = let q : 8 ≡ k = omega (arith, leb-false k 7 e) in let p : 10 ^ 8 ≤ n = rw (sym q) at h in absurd (omega arith)
long_step k n b bs h l again false e = ap said (scan_wrong bs)

long : (k n : ℕ) (bs : List ℕ) → k ≤ 8 → 10 ^ k ≤ n → 8 < k + length bs → said (scan (digits false n) bs) ≡ None
unfolding scan
long k n [] l h g = absurd (omega arith)
long k n (b ∷ bs) l h g =
    long_step k n b bs h l (λ k7 m p. long (suc k) m bs (omega arith) p (omega arith)) (is_digit b && not (eqb n 0) && ltb n 100000000) refl

-- ---- digits without sign

-- what is said from a byte on, behind the digits of n; 0 where no digit was read
abbrev pub ahead : ℕ → List ℕ → Option ℤ
ahead zero bs = begun bs
ahead (suc n) bs = said (scan (digits false (suc n)) bs)

ahead_some : (n : ℕ) (bs : List ℕ) → 0 < n → ahead n bs ≡ said (scan (digits false n) bs)
ahead_some zero bs h = absurd (omega arith)
ahead_some (suc n) bs h = refl

begun_digit : (b : ℕ) (bs : List ℕ) → is_digit b ≡ true → begun (b ∷ bs) ≡ said (scan (digits false (b - 48)) bs)
unfolding begun
begun_digit b bs e = rw e

ahead_bad : (n b : ℕ) (bs : List ℕ) → is_digit b ≡ false → ahead n (b ∷ bs) ≡ None
unfolding begun scan
ahead_bad zero b bs e = rw (e, scan_wrong bs)
ahead_bad (suc n) b bs e = rw (e, scan_wrong bs)

ahead_good : (n b : ℕ) (bs : List ℕ) → is_digit b ≡ true → 0 < n * 10 + (b - 48) → n < 100000000 → ahead n (b ∷ bs) ≡ ahead (n * 10 + (b - 48)) bs
unfolding scan
ahead_good zero b bs e p q = let z : 0 * 10 + (b - 48) ≡ b - 48 = omega arith in rw z (begun_digit b bs e ∙ sym (ahead_some (b - 48) bs (omega arith)))
ahead_good (suc n) b bs e p q = rw (e, ne_eqb (suc n) 0 (λ z. omega arith), lt-ltb (suc n) 100000000 q) (sym (ahead_some (suc n * 10 + (b - 48)) bs p))

begun_long : (b : ℕ) (bs : List ℕ) → (b ≡ 48 → ⊥) → 8 < length bs → begun (b ∷ bs) ≡ None
begun_long b bs p h = by (is_digit b) refl
  where
    by : (t : Bool) → is_digit b ≡ t → begun (b ∷ bs) ≡ None
    by true e =
        let d = digit_back b e in
        begun_digit b bs e ∙ long 0 (b - 48) bs (omega arith) (omega arith) (omega arith)
    by false e = ahead_bad 0 b bs e

-- a 0 with a byte behind it
zero_led : (b : ℕ) (bs : List ℕ) → said (scan (digits false 0) (b ∷ bs)) ≡ None
unfolding scan
zero_led b bs = by (is_digit b)
  where
    by : (t : Bool) → said (scan (cond (t && false && true) (digits false (0 * 10 + (b - 48))) wrong) bs) ≡ None
    by true = ap said (scan_wrong bs)
    by false = ap said (scan_wrong bs)

-- ---- digits behind a minus

-- what digits say behind a minus, of what they say without one
abbrev pub behind_minus : Option ℤ → Option ℤ
behind_minus (Some (pos zero)) = None
behind_minus (Some (pos (suc n))) = Some (negsuc n)
behind_minus (Some (negsuc n)) = None
behind_minus None = None

minus_digits : (n : ℕ) (bs : List ℕ) → 0 < n → said (scan (digits true n) bs) ≡ behind_minus (said (scan (digits false n) bs))
unfolding scan
minus_digits zero [] h = absurd (omega arith)
minus_digits (suc n) [] h = refl
minus_digits n (b ∷ bs) h = by (n * 10 + (b - 48)) (minus_digits (n * 10 + (b - 48)) bs (omega arith)) (is_digit b && not (eqb n 0) && ltb n 100000000)
  where
    by : (m : ℕ) → said (scan (digits true m) bs) ≡ behind_minus (said (scan (digits false m) bs))
        → (t : Bool) → said (scan (cond t (digits true m) wrong) bs) ≡ behind_minus (said (scan (cond t (digits false m) wrong) bs))
    by m again true = again
    by m again false = rw (scan_wrong bs)

minus_begun : (bs : List ℕ) → said (scan signed bs) ≡ behind_minus (begun bs)
unfolding scan begun
minus_begun [] = refl
minus_begun (b ∷ bs) = by (is_digit b) (eqb b 48) refl refl
  where
    zero_said : (bs : List ℕ) → None ≡ behind_minus (said (scan (digits false 0) bs))
    zero_said [] = refl
    zero_said (b ∷ bs) = ap behind_minus (sym (zero_led b bs))

    by : (t z : Bool) → is_digit b ≡ t → eqb b 48 ≡ z
        → said (scan (cond (t && not z) (digits true (b - 48)) wrong) bs) ≡ behind_minus (said (scan (cond (t && true) (digits false (b - 48)) wrong) bs))
    by false z d e = rw (scan_wrong bs)
    by true true d e = rw (eqb-true b 48 e, scan_wrong bs) (zero_said bs)
    by true false d e = let k = digit_back b d in let y : (b ≡ 48 → ⊥) = eqb-false b 48 e in minus_digits (b - 48) bs (omega arith)

-- ---- the answers of `digits_of`

pub none_said : (f : List ℕ) → length f ≡ 0 → None ≡ begun f
unfolding begun
none_said [] h = refl
none_said (b ∷ bs) h = absurd (omega arith)

pub zero_said : (f : List ℕ) → 0 < length f → get_or f 0 0 ≡ 48 → digits_said (then_some (eqb (length f) 1) 0) ≡ begun f
unfolding begun scan
zero_said [] p h = absurd (omega arith)
zero_said (b ∷ []) p h = rw h
zero_said (b ∷ x ∷ bs) p h = rw (h, ne_eqb (length (b ∷ x ∷ bs)) 1 (λ z. omega arith)) (sym (zero_led x bs))

pub long_said : (f : List ℕ) → (get_or f 0 0 ≡ 48 → ⊥) → 9 < length f → None ≡ begun f
long_said [] p h = absurd (omega arith)
long_said (b ∷ bs) p h = sym (begun_long b bs p (omega arith))

-- a byte of the digits, n their number before it; n is not 0 behind the first, which i ≤ n says in numbers
module _ (f : List ℕ) (i n : ℕ) (h : i < length f) (e : ahead n (drop i f) ≡ begun f) where
  byte : drop i f ≡ get_or f i 0 ∷ drop (i + 1) f
  byte = rw (add-one, drop-cons f i 0)

  pub turn_bad : is_digit (get_or f i 0) ≡ false → None ≡ begun f
  turn_bad d = sym (ahead_bad n (get_or f i 0) (drop (i + 1) f) d) ∙ rw byte at e

  pub turn : (get_or f 0 0 ≡ 48 → ⊥) → length f ≤ 9 → i ≤ n → n < 10 ^ i → is_digit (get_or f i 0) ≡ true
      → (i + 1 ≤ n * 10 + (get_or f i 0 - 48)) × (n * 10 + (get_or f i 0 - 48) < 10 ^ (i + 1)) × (ahead (n * 10 + (get_or f i 0 - 48)) (drop (i + 1) f) ≡ begun f)
  turn p l k q d =
      let r = digit_back (get_or f i 0) d in
      let m : 0 < n * 10 + (get_or f i 0 - 48) = some n k r.0 in (
        more n k r.0,
        rw (add-one, pow-succ') (omega (arith, r.1)),
        sym (ahead_good n (get_or f i 0) (drop (i + 1) f) d m (below 8 n i q (omega arith))) ∙ rw byte at e,
      )
    where
      some : (n : ℕ) → i ≤ n → 48 ≤ get_or f i 0 → 0 < n * 10 + (get_or f i 0 - 48)
      some zero k low = let s : i ≡ 0 = omega arith in let q : (get_or f i 0 ≡ 48 → ⊥) = rw s p in omega arith
      some (suc n) k low = omega arith

      more : (n : ℕ) → i ≤ n → 48 ≤ get_or f i 0 → i + 1 ≤ n * 10 + (get_or f i 0 - 48)
      more zero k low = omega (arith, some zero k low)
      more (suc n) k low = omega arith

pub turned : (f : List ℕ) (i n : ℕ) → 0 < length f → length f ≤ i → i ≤ n → ahead n (drop i f) ≡ begun f → Some (pos n) ≡ begun f
unfolding scan
turned f i n h l k e = sym (ahead_some n [] (omega arith)) ∙ rw (drop_of_length-le f l) at e

-- ---- the answers of the readers

counted_minus : (x : Option ℤ) → None ≡ option_and_then count_of (behind_minus x)
counted_minus (Some (pos zero)) = refl
counted_minus (Some (pos (suc n))) = refl
counted_minus (Some (negsuc n)) = refl
counted_minus None = refl

-- behind a minus
minus_said : (f bs : List ℕ) → Spaces f (45 ∷ bs) → behind_minus (begun bs) ≡ parse f
unfolding parse scan
minus_said f bs s = sym (minus_begun bs) ∙ ap said s.skipped

pub signed_said : (n : ℕ) → then_some (not (eqb n 0)) (neg_ℤ (pos n)) ≡ behind_minus (Some (pos n))
signed_said zero = refl
signed_said (suc n) = rw (ne_eqb (suc n) 0 (λ z. omega arith))

pub minus_read : (f rest : List ℕ) (n : Option ℕ) → Spaces f rest → 0 < length rest → get_or rest 0 0 ≡ 45 → digits_said n ≡ begun (take (length rest - 1) (drop 1 rest)) → behind_minus (digits_said n) ≡ parse f
minus_read f [] n s p h e = absurd (omega arith)
minus_read f (b ∷ bs) n s p h e =
    let k : length (b ∷ bs) - 1 ≡ length bs = omega arith in
    let e₂ : digits_said n ≡ begun bs = rw (k, take-length bs) at e in
    ap behind_minus e₂ ∙ minus_said f bs (rw h at s)

-- behind no minus
module _ (f rest : List ℕ) (s : Spaces f rest) where
  plain_said : (0 < length rest → get_or rest 0 0 ≡ 45 → ⊥) → begun rest ≡ parse f
  unfolding parse begun scan
  plain_said = by rest s
    where
      by : (rest : List ℕ) → Spaces f rest → (0 < length rest → get_or rest 0 0 ≡ 45 → ⊥) → begun rest ≡ parse f
      by [] s e = ap said s.skipped
      by (b ∷ bs) s e =
          let p : step blank b ≡ first_digit false b = rw (ne_eqb b 32 s.ink, ne_eqb b 45 (e (omega arith))) in
          ap (λ (t : State). said (scan t bs)) (sym p) ∙ ap said s.skipped

  pub plain_read : (n : Option ℕ) → digits_said n ≡ begun rest → (0 < length rest → get_or rest 0 0 ≡ 45 → ⊥) → digits_said n ≡ parse f
  plain_read n e h = e ∙ plain_said h

  pub blank_read : length rest ≡ 0 → None ≡ parse f
  unfolding parse scan
  blank_read z = by rest s z
    where
      by : (rest : List ℕ) → Spaces f rest → length rest ≡ 0 → None ≡ parse f
      by [] s z = ap said s.skipped
      by (b ∷ bs) s z = absurd (omega arith)

pub count_said : (f rest : List ℕ) (n : Option ℕ) → Spaces f rest → digits_said n ≡ begun rest → n ≡ count_in f
unfolding count_in
count_said f rest n s e = same n ∙ ap (option_and_then count_of) e ∙ by rest s
  where
    same : (n : Option ℕ) → n ≡ option_and_then count_of (digits_said n)
    same (Some n) = refl
    same None = refl

    by : (rest : List ℕ) → Spaces f rest → option_and_then count_of (begun rest) ≡ option_and_then count_of (parse f)
    by [] s = ap (option_and_then count_of) (plain_said f [] s (λ p z. omega arith))
    by (b ∷ bs) s = inner (eqb b 45) refl
      where
        inner : (t : Bool) → eqb b 45 ≡ t → option_and_then count_of (begun (b ∷ bs)) ≡ option_and_then count_of (parse f)
        inner true z =
            let q = eqb-true b 45 z in
            ap (option_and_then count_of) (ahead_bad 0 b bs (digit_low b (omega arith))) ∙ counted_minus (begun bs) ∙ ap (option_and_then count_of) (minus_said f bs (rw q at s))
        inner false z = ap (option_and_then count_of) (plain_said f (b ∷ bs) s (λ p. eqb-false b 45 z))

-- ---- a number of the digits as one with a sign

pub as_pos : (n : ℕ) → n < 9223372036854775808 → to_z w64 n ≡ pos n
as_pos n h = to_z_pos w64 (omega arith)

fits_neg : (n : ℕ) → n < 9223372036854775808 → SFits w64 (neg_ℤ (pos n))
fits_neg zero h = record { sfits = omega arith }
fits_neg (suc n) h = record { sfits = omega arith }

pub as_minus : (n : ℕ) → n < 9223372036854775808 → to_z w64 (of_z w64 (pos 0 -ℤ to_z w64 n)) ≡ neg_ℤ (pos n)
as_minus n h =
    let minus : pos 0 -ℤ to_z w64 n ≡ neg_ℤ (pos n) = ap (λ (z : ℤ). pos 0 -ℤ z) (as_pos n h) ∙ +ℤ_idl (neg_ℤ (pos n)) in
    let fits : SFits w64 (pos 0 -ℤ to_z w64 n) = rw minus (fits_neg n h) in
    to_z-of_z fits ∙ minus
