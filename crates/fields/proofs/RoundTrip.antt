-- A field says a number if and only if it is the rendering of that number. Assumes nothing.
use Prim.Native.Nat.{ℕ, zero, suc, ◌+◌, ◌-◌, ◌*◌, ◌/◌, ◌%◌, ◌^◌, ◌≤◌, ◌<◌}
use mathlib.Core.Path.{◌≡◌, refl, sym, ap, ◌∙◌}
use mathlib.Core.List.{List, [], ◌∷◌, ◌++◌, append_assoc, append-nil}
use mathlib.Core.Bool.{Bool, true, false, not, cond, ◌&&◌}
use native.Mathlib.Nat.{pow-succ', one-le-pow}
use native.Mathlib.Omega.{arith}
use lib.ListN.{length, get_or, drop, take, take-append-drop}
use lib.Seq.{drop-cons}
use lib.Dec.{ltb, eqb}
use borrow.Author.Tests.{eqb-true, eqb-false, lt-ltb, ltb-true, ne_eqb, not-true}
use Rattle.fields.specs.Field.{State, blank, signed, digits, wrong, is_digit, step, scan, said, parse}
use Rattle.text.specs.Render.{glyph_of, pad, render, render_minus}
use Rattle.std.specs.Prelude.{pos, negsuc, neg_ℤ, Some, None}
use Rattle.fields.proofs.Read.{and_both, digit_in, digit_back, scan_wrong}
use Rattle.text.proofs.Write.{length_pad}

-- what holds of each case of a test
cond_cases : {A : Type 0} (P : A → Type 0) (t : Bool) (a b : A) → (t ≡ true → P a) → (t ≡ false → P b) → P (cond t a b)
cond_cases P true a b f g = f refl
cond_cases P false a b f g = g refl

pub scan_append : (s : State) (xs ys : List ℕ) → scan s (xs ++ ys) ≡ scan (scan s xs) ys
unfolding scan
scan_append s [] ys = refl
scan_append s (x ∷ xs) ys = scan_append (step s x) xs ys

scan_snoc : (s t u : State) (xs : List ℕ) (b : ℕ) → scan s xs ≡ t → step t b ≡ u → scan s (xs ++ (b ∷ [])) ≡ u
unfolding scan
scan_snoc s t u xs b e h = scan_append s xs (b ∷ []) ∙ ap (λ (v : State). step v b) e ∙ h

-- ---- the renderings are taken

-- the state before the first digit, and before a last digit where the number without it is m
start : Bool → State
start minus = cond minus signed blank

before : Bool → ℕ → State
before minus m = cond (eqb m 0) (start minus) (digits minus m)

first_digit_lem : (minus : Bool) (d : ℕ) → (minus ≡ true → 0 < d) → d < 10 → step (start minus) (48 + d) ≡ digits minus d
unfolding start
first_digit_lem true d p h =
    let e : 48 + d - 48 ≡ d = omega arith in
    let q : 0 < d = p refl in
    rw (digit_in (48 + d) (omega arith) (omega arith), ne_eqb (48 + d) 48 (λ z. omega arith), e)
first_digit_lem false d p h =
    let e : 48 + d - 48 ≡ d = omega arith in
    rw (ne_eqb (48 + d) 32 (λ z. omega arith), ne_eqb (48 + d) 45 (λ z. omega arith), digit_in (48 + d) (omega arith) (omega arith), e)

next_digit_lem : (minus : Bool) (m d : ℕ) → 0 < m → m < 100000000 → d < 10 → step (digits minus m) (48 + d) ≡ digits minus (m * 10 + d)
next_digit_lem minus m d p q h =
    let e : 48 + d - 48 ≡ d = omega arith in
    rw (digit_in (48 + d) (omega arith) (omega arith), ne_eqb m 0 (λ z. omega arith), lt-ltb m 100000000 q, e)

last_digit : (minus : Bool) (n : ℕ) → (minus ≡ true → 0 < n) → n < 1000000000 → step (before minus (n / 10)) (48 + n % 10) ≡ digits minus n
unfolding before
last_digit minus n p h =
    cond_cases (λ s. step s (48 + n % 10) ≡ digits minus n) (eqb (n / 10) 0) _ _
    (λ e. let z : n / 10 ≡ 0 = eqb-true (n / 10) 0 e in let y : n % 10 ≡ n = omega arith in rw y (first_digit_lem minus n p (omega arith)))
    (λ e. let y : (n / 10 ≡ 0 → ⊥) = eqb-false (n / 10) 0 e in
    let q : 0 < n / 10 = omega arith in
    let z : n / 10 * 10 + n % 10 ≡ n = omega arith in
    next_digit_lem minus (n / 10) (n % 10) q (omega arith) (omega arith) ∙ ap (digits minus) z)

spaces : (w : ℕ) → scan blank (pad w 0) ≡ blank
unfolding scan
spaces zero = refl
spaces (suc w) = scan_snoc blank blank blank (pad w 0) 32 (spaces w) refl

padded : (w n : ℕ) → n < 10 ^ w → n < 1000000000 → scan blank (pad w n) ≡ before false n
unfolding before scan start
padded zero n h k = let z : n ≡ 0 = omega arith in rw z
padded (suc w) n h k =
    let h₂ : n < 10 * 10 ^ w = rw pow-succ' at h in
    let ih : scan blank (pad w (n / 10)) ≡ before false (n / 10) = padded w (n / 10) (omega arith) (omega arith) in
    scan_snoc blank (before false (n / 10)) (before false n) (pad w (n / 10)) (glyph_of n) ih
    (cond_cases (λ g. step (before false (n / 10)) g ≡ before false n) (eqb n 0) 32 (48 + n % 10)
    (λ e. let z : n ≡ 0 = eqb-true n 0 e in rw z)
    (λ e. rw e (last_digit false n (λ z. absurd (true_false z)) k)))
  where
    true_false : false ≡ true → ⊥
    true_false z = let y : ◌≡◌ {A = ℕ} 0 1 = cc in omega arith

-- a number's rendering is taken, and says the number
pub taken : (w n : ℕ) → n < 10 ^ suc w → n < 1000000000 → parse (render (suc w) n) ≡ Some (pos n)
unfolding render parse
taken w n h k =
    let h₂ : n < 10 * 10 ^ w = rw pow-succ' at h in
    ap said
    (scan_snoc blank (before false (n / 10)) (digits false n) (pad w (n / 10)) (48 + n % 10) (padded w (n / 10) (omega arith) (omega arith))
    (last_digit false n (λ z. let y : ◌≡◌ {A = ℕ} 0 1 = cc in absurd (omega arith)) k))

signed_minus : (w n : ℕ) → n < 10 ^ w → n < 1000000000 → scan blank (render_minus (suc w) n) ≡ before true n
unfolding before start render_minus scan
signed_minus zero n h k = let z : n ≡ 0 = omega arith in rw z
signed_minus (suc w) n h k =
    let h₂ : n < 10 * 10 ^ w = rw pow-succ' at h in
    let ih : scan blank (render_minus (suc w) (n / 10)) ≡ before true (n / 10) = signed_minus w (n / 10) (omega arith) (omega arith) in
    cond_cases (λ l. scan blank l ≡ before true n) (eqb n 0) _ _
    (λ e. rw e (scan_snoc blank blank signed (pad (suc w) 0) 45 (spaces (suc w)) refl))
    (λ e. let y : (n ≡ 0 → ⊥) = eqb-false n 0 e in
    let q : 0 < n = omega arith in
    scan_snoc blank (before true (n / 10)) (before true n) (render_minus (suc w) (n / 10)) (48 + n % 10) ih (rw e (last_digit true n (λ _. q) k)))

-- the rendering of a number below 0 is taken, and says the number
pub taken_minus : (w n : ℕ) → 0 < n → n < 10 ^ w → n < 1000000000 → parse (render_minus (suc w) n) ≡ Some (neg_ℤ (pos n))
unfolding before parse
taken_minus w n p h k = let e : scan blank (render_minus (suc w) n) ≡ digits true n = signed_minus w n h k ∙ rw (ne_eqb n 0 (λ e. omega arith)) in ap said e

-- ---- nothing else is taken: what the bytes are that lead to a state

Is : State → List ℕ → Type 0
Is blank xs = xs ≡ pad (length xs) 0
Is signed xs = xs ≡ render_minus (length xs) 0
Is (digits false n) xs = (xs ≡ render (length xs) n) × (n < 10 ^ length xs)
Is (digits true n) xs = (0 < n) × (xs ≡ render_minus (length xs) n)
Is wrong xs = Unit

len_snoc : (xs : List ℕ) (b : ℕ) → length (xs ++ (b ∷ [])) ≡ suc (length xs)
len_snoc [] b = refl
len_snoc (x ∷ xs) b = ap suc (len_snoc xs b)

snoc : {xs l : List ℕ} {b g : ℕ} → xs ≡ l → b ≡ g → xs ++ (b ∷ []) ≡ l ++ (g ∷ [])
snoc p q = cc

render-pad : (w n : ℕ) → (n ≡ 0 → ⊥) → render w n ≡ pad w n
unfolding render
render-pad zero n h = refl
render-pad (suc w) n h = rw (ne_eqb n 0 h)

-- a digit behind a number's bytes without it
grown : (xs : List ℕ) (b n : ℕ) → xs ≡ pad (length xs) (n / 10) → b ≡ 48 + n % 10 → n / 10 < 10 ^ length xs → Is (digits false n) (xs ++ (b ∷ []))
unfolding Is render
grown xs b n p q h = rw len_snoc (snoc p q, rw pow-succ' (omega arith))

grown_minus : (xs : List ℕ) (b n : ℕ) → 0 < n → xs ≡ render_minus (length xs) (n / 10) → b ≡ 48 + n % 10 → Is (digits true n) (xs ++ (b ∷ []))
unfolding Is render_minus
grown_minus xs b n z p q = (z, rw (len_snoc, ne_eqb n 0 (λ e. omega arith)) (snoc p q))

first_is : (minus : Bool) (xs : List ℕ) (b : ℕ) → Is (start minus) xs → (t : Bool) → (is_digit b && not (minus && eqb b 48)) ≡ t
    → Is (cond t (digits minus (b - 48)) wrong) (xs ++ (b ∷ []))
unfolding Is start
first_is minus xs b h false e = tt
first_is true xs b h true e =
    let a = and_both (is_digit b) (not (eqb b 48)) e in
    let d = digit_back b a.0 in
    let y : (b ≡ 48 → ⊥) = eqb-false b 48 (not-true (eqb b 48) a.1) in
    let q : (b - 48) / 10 ≡ 0 = omega arith in
    grown_minus xs b (b - 48) (omega arith) (rw q h) (omega arith)
first_is false xs b h true e =
    let d = digit_back b (and_both (is_digit b) true e).0 in
    let q : (b - 48) / 10 ≡ 0 = omega arith in
    grown xs b (b - 48) (rw q h) (omega arith) (rw q (one-le-pow (length xs) 10 (omega arith)))

next_is : (minus : Bool) (n : ℕ) (xs : List ℕ) (b : ℕ) → Is (digits minus n) xs → (t : Bool) → (is_digit b && not (eqb n 0) && ltb n 100000000) ≡ t
    → Is (cond t (digits minus (n * 10 + (b - 48))) wrong) (xs ++ (b ∷ []))
unfolding Is
next_is minus n xs b h false e = tt
next_is minus n xs b h true e =
    let a = and_both (is_digit b && not (eqb n 0)) (ltb n 100000000) e in
    let a₂ = and_both (is_digit b) (not (eqb n 0)) a.0 in
    let d = digit_back b a₂.0 in
    let y : (n ≡ 0 → ⊥) = eqb-false n 0 (not-true (eqb n 0) a₂.1) in
    let q : (n * 10 + (b - 48)) / 10 ≡ n = omega arith in
    by minus q y d h
  where
    by : (minus : Bool) → (n * 10 + (b - 48)) / 10 ≡ n → (n ≡ 0 → ⊥) → (48 ≤ b) × (b ≤ 57) → Is (digits minus n) xs → Is (digits minus (n * 10 + (b - 48))) (xs ++ (b ∷ []))
    by true q y d h = grown_minus xs b (n * 10 + (b - 48)) (omega arith) (rw q h.1) (omega arith)
    by false q y d h = grown xs b (n * 10 + (b - 48)) (rw q (h.0 ∙ render-pad (length xs) n y)) (omega arith) (rw q h.1)

step_is : (s : State) (xs : List ℕ) (b : ℕ) → Is s xs → Is (step s b) (xs ++ (b ∷ []))
unfolding Is start render_minus
step_is blank xs b h =
    cond_cases (λ s. Is s (xs ++ (b ∷ []))) (eqb b 32) _ _
    (λ e. rw len_snoc (snoc h (eqb-true b 32 e)))
    (λ _. cond_cases (λ s. Is s (xs ++ (b ∷ []))) (eqb b 45) _ _
    (λ e. rw len_snoc (snoc h (eqb-true b 45 e)))
    (λ _. first_is false xs b h (is_digit b && true) refl))
step_is signed xs b h = first_is true xs b h (is_digit b && not (eqb b 48)) refl
step_is (digits minus n) xs b h = next_is minus n xs b h (is_digit b && not (eqb n 0) && ltb n 100000000) refl
step_is wrong xs b h = tt

scan_is : (s : State) (xs ys : List ℕ) → Is s xs → Is (scan s ys) (xs ++ ys)
unfolding scan
scan_is s xs [] h = rw append-nil h
scan_is s xs (y ∷ ys) h = rw append_assoc at (scan_is (step s y) (xs ++ (y ∷ [])) ys (step_is s xs y h))

-- what a field says, of the bytes that led there
said_is : (s : State) (xs : List ℕ) → Is s xs → (n : ℕ) → said s ≡ Some (pos n) → (xs ≡ render (length xs) n) × (n < 10 ^ length xs)
unfolding Is
said_is blank xs h n e = let z : ◌≡◌ {A = ℕ} 0 1 = cc in absurd (omega arith)
said_is signed xs h n e = let z : ◌≡◌ {A = ℕ} 0 1 = cc in absurd (omega arith)
said_is (digits false m) xs h n e = let q : m ≡ n = cc in rw q at h
said_is (digits true zero) xs h n e = absurd (omega (arith, h.0))
said_is (digits true (suc m)) xs h n e = let z : ◌≡◌ {A = ℕ} 0 1 = cc in absurd (omega arith)
said_is wrong xs h n e = let z : ◌≡◌ {A = ℕ} 0 1 = cc in absurd (omega arith)

said_is_minus : (s : State) (xs : List ℕ) → Is s xs → (n : ℕ) → said s ≡ Some (negsuc n) → xs ≡ render_minus (length xs) (suc n)
unfolding Is
said_is_minus blank xs h n e = let z : ◌≡◌ {A = ℕ} 0 1 = cc in absurd (omega arith)
said_is_minus signed xs h n e = let z : ◌≡◌ {A = ℕ} 0 1 = cc in absurd (omega arith)
said_is_minus (digits false m) xs h n e = let z : ◌≡◌ {A = ℕ} 0 1 = cc in absurd (omega arith)
said_is_minus (digits true zero) xs h n e = absurd (omega (arith, h.0))
said_is_minus (digits true (suc m)) xs h n e = let q : m ≡ n = cc in rw q at h.1
said_is_minus wrong xs h n e = let z : ◌≡◌ {A = ℕ} 0 1 = cc in absurd (omega arith)

-- a field that says a number is the rendering of that number
pub only : (f : List ℕ) (n : ℕ) → parse f ≡ Some (pos n) → (f ≡ render (length f) n) × (n < 10 ^ length f)
unfolding Is parse
only f n e = said_is (scan blank f) f (scan_is blank [] f refl) n e

pub only_minus : (f : List ℕ) (n : ℕ) → parse f ≡ Some (negsuc n) → f ≡ render_minus (length f) (suc n)
unfolding Is parse
only_minus f n e = said_is_minus (scan blank f) f (scan_is blank [] f refl) n e

-- ---- a field says at most nine digits

Small : State → Type 0
Small blank = Unit
Small signed = Unit
Small (digits minus n) = n < 1000000000
Small wrong = Unit

small_first : (minus : Bool) (b : ℕ) (t : Bool) → (is_digit b && not (minus && eqb b 48)) ≡ t → Small (cond t (digits minus (b - 48)) wrong)
unfolding Small
small_first minus b true e = omega (arith, (digit_back b (and_both (is_digit b) (not (minus && eqb b 48)) e).0).1)
small_first minus b false e = tt

small_next : (minus : Bool) (n b : ℕ) (t : Bool) → (is_digit b && not (eqb n 0) && ltb n 100000000) ≡ t → Small (cond t (digits minus (n * 10 + (b - 48))) wrong)
unfolding Small
small_next minus n b true e =
    let a = and_both (is_digit b && not (eqb n 0)) (ltb n 100000000) e in
    omega (arith, (digit_back b (and_both (is_digit b) (not (eqb n 0)) a.0).0).1, ltb-true n 100000000 a.1)
small_next minus n b false e = tt

step_small : (s : State) (b : ℕ) → Small (step s b)
unfolding Small
step_small blank b =
    cond_cases Small (eqb b 32) _ _ (λ _. tt) (λ _. cond_cases Small (eqb b 45) _ _ (λ _. tt) (λ _. small_first false b (is_digit b && true) refl))
step_small signed b = small_first true b (is_digit b && not (eqb b 48)) refl
step_small (digits minus n) b = small_next minus n b (is_digit b && not (eqb n 0) && ltb n 100000000) refl
step_small wrong b = tt

scan_small : (s : State) (bs : List ℕ) → Small s → Small (scan s bs)
unfolding scan
scan_small s [] h = h
scan_small s (b ∷ bs) h = scan_small (step s b) bs (step_small s b)

said_small : (s : State) → Small s → (n : ℕ) → said s ≡ Some (pos n) → n < 1000000000
unfolding Small
said_small blank h n e = let z : ◌≡◌ {A = ℕ} 0 1 = cc in absurd (omega arith)
said_small signed h n e = let z : ◌≡◌ {A = ℕ} 0 1 = cc in absurd (omega arith)
said_small (digits false m) h n e = let q : m ≡ n = cc in omega arith
said_small (digits true zero) h n e = let q : 0 ≡ n = cc in omega arith
said_small (digits true (suc m)) h n e = let z : ◌≡◌ {A = ℕ} 0 1 = cc in absurd (omega arith)
said_small wrong h n e = let z : ◌≡◌ {A = ℕ} 0 1 = cc in absurd (omega arith)

said_small_minus : (s : State) → Small s → (n : ℕ) → said s ≡ Some (negsuc n) → suc n < 1000000000
unfolding Small
said_small_minus blank h n e = let z : ◌≡◌ {A = ℕ} 0 1 = cc in absurd (omega arith)
said_small_minus signed h n e = let z : ◌≡◌ {A = ℕ} 0 1 = cc in absurd (omega arith)
said_small_minus (digits false m) h n e = let z : ◌≡◌ {A = ℕ} 0 1 = cc in absurd (omega arith)
said_small_minus (digits true zero) h n e = let z : ◌≡◌ {A = ℕ} 0 1 = cc in absurd (omega arith)
said_small_minus (digits true (suc m)) h n e = let q : m ≡ n = cc in omega arith
said_small_minus wrong h n e = let z : ◌≡◌ {A = ℕ} 0 1 = cc in absurd (omega arith)

-- a field says a number of at most nine digits
pub small : (f : List ℕ) (n : ℕ) → parse f ≡ Some (pos n) → n < 1000000000
unfolding Small parse
small f n e = said_small (scan blank f) (scan_small blank f tt) n e

pub small_minus : (f : List ℕ) (n : ℕ) → parse f ≡ Some (negsuc n) → suc n < 1000000000
unfolding Small parse
small_minus f n e = said_small_minus (scan blank f) (scan_small blank f tt) n e

-- ---- a field with LF in it is no number

step_lf : (s : State) → step s 10 ≡ wrong
step_lf blank = refl
step_lf signed = refl
step_lf (digits minus n) = refl
step_lf wrong = refl

pub lf_bad : (f : List ℕ) (i : ℕ) → i < length f → get_or f i 0 ≡ 10 → parse f ≡ None
unfolding parse scan
lf_bad f i h e =
    let p : f ≡ take i f ++ (10 ∷ drop (suc i) f) = sym (take-append-drop i f) ∙ ap (λ (r : List ℕ). take i f ++ r) (drop-cons f i 0 h ∙ ap (λ (b : ℕ). b ∷ drop (suc i) f) e) in
    let q : scan blank (take i f ++ (10 ∷ drop (suc i) f)) ≡ wrong =
    scan_append blank (take i f) (10 ∷ drop (suc i) f) ∙ ap (λ (s : State). scan s (drop (suc i) f)) (step_lf (scan blank (take i f))) ∙ scan_wrong (drop (suc i) f) in
    ap (λ (r : List ℕ). said (scan blank r)) p ∙ ap said q

-- ---- lengths

pub length_minus : (w n : ℕ) → n < 10 ^ w → length (render_minus (suc w) n) ≡ suc w
unfolding render_minus
length_minus zero n h = let z : n ≡ 0 = omega arith in rw z
length_minus (suc w) n h =
    let h₂ : n < 10 * 10 ^ w = rw pow-succ' at h in
    cond_cases (λ (l : List ℕ). length l ≡ suc (suc w)) (eqb n 0) _ _
    (λ e. len_snoc (pad (suc w) 0) 45 ∙ ap suc (length_pad (suc w) 0))
    (λ e. len_snoc (render_minus (suc w) (n / 10)) (48 + n % 10) ∙ ap suc (length_minus w (n / 10) (omega arith)))
