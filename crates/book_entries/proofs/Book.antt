-- Laws of the factor book: where an entry stands, and that it is its curve. Assumes nothing.
use mathlib.Core.Path.{◌≡◌, refl, ap, ◌∙◌}
use mathlib.Core.Bool.{Bool, true, false}
use mathlib.Core.List.{List}
use Prim.Native.Nat.{ℕ, zero, suc, ◌+◌, ◌*◌, ◌-◌, ◌/◌, ◌%◌, ◌≤◌, ◌<◌}
use native.Mathlib.Omega.{arith}
use lib.Dec.{ltb}
use lib.IntN.{pos, nat_abs}
use lib.ListN.{length, get_or}
use borrow.Author.Tests.{ne_eqb, ltb-true, ltb-false}
use Rattle.units.specs.Lists.{tab}
use Rattle.units.proofs.Tab.{tab_at, tab_length}
use Rattle.factors.specs.Factors.{Driven, curve, emission_factor, factor_at}
use Rattle.factors.proofs.Factors.{curve_kept, factor_read}
use Rattle.book_entries.specs.Book.{class_at, place_of, entry_place, entry_of, book}
use Rattle.book_entries.specs.Claim.{BookClaim}

-- ---- the classes of the book

pub first_four : (place : ℕ) → place < 4 → class_at place ≡ place + 1
unfolding class_at
first_four zero h = refl
first_four (suc zero) h = refl
first_four (suc (suc zero)) h = refl
first_four (suc (suc (suc zero))) h = refl
first_four (suc (suc (suc (suc n)))) h = absurd (omega arith)

pub last_two : (place : ℕ) → 4 ≤ place → place < 6 → class_at place ≡ place + 2
unfolding class_at
last_two zero l h = absurd (omega arith)
last_two (suc zero) l h = absurd (omega arith)
last_two (suc (suc zero)) l h = absurd (omega arith)
last_two (suc (suc (suc zero))) l h = absurd (omega arith)
last_two (suc (suc (suc (suc zero)))) l h = refl
last_two (suc (suc (suc (suc (suc zero))))) l h = refl
last_two (suc (suc (suc (suc (suc (suc n)))))) l h = absurd (omega arith)

-- a class has a place, and the place that class
abbrev pub Placed : ℕ → Type 0
Placed class = (place_of class < 6) × (class_at (place_of class) ≡ class)

by_class : (class : ℕ) (b : Bool) → ltb class 5 ≡ b → 1 ≤ class → class ≤ 7 → (class ≡ 5 → ⊥) → Placed class
unfolding place_of
by_class class true e low high n =
    let h = ltb-true class 5 e in
    let c = first_four (class - 1) (omega arith) in
    rw e (omega arith, omega (arith, c))
by_class class false e low high n =
    let h = ltb-false class 5 e in
    let c = last_two (class - 2) (omega (arith, n)) (omega arith) in
    rw e (omega arith, omega (arith, c))

pub placed : (class v : ℕ) → Driven class v → (class ≡ 5 → ⊥) → Placed class
placed class v d n = by_class class (ltb class 5) refl (omega arith) (omega arith) n

-- the class at a place is one with curves
by_place : (place : ℕ) (b : Bool) → ltb place 4 ≡ b → place < 6 → (1 ≤ class_at place) × (class_at place ≤ 7) × (class_at place ≡ 5 → ⊥)
by_place place true e h =
    let l = ltb-true place 4 e in
    let c = first_four place l in
    (omega (arith, c), omega (arith, c), λ (f : class_at place ≡ 5). absurd (omega (arith, c, f)))
by_place place false e h =
    let l = ltb-false place 4 e in
    let c = last_two place l h in
    (omega (arith, c), omega (arith, c), λ (f : class_at place ≡ 5). absurd (omega (arith, c, f)))

pub in_range : (place : ℕ) → place < 6 → (1 ≤ class_at place) × (class_at place ≤ 7) × (class_at place ≡ 5 → ⊥)
in_range place h = by_place place (ltb place 4) refl h

-- what the curves ask for at one speed on all roads
pub driven_roads : (place v : ℕ) → place < 6 → 10 ≤ v → v ≤ 130 → (Driven (class_at place) v × Driven (class_at place) v × Driven (class_at place) v) × (class_at place ≡ 5 → ⊥)
driven_roads place v h low high =
    let c = in_range place h in
    let d : Driven (class_at place) v = record { class_low = c.0; class_high = c.1; speed_low = low; speed_high = high } in
    ((d, d, d), c.2)

-- ---- an entry

book_at : (i : ℕ) → i < 3630 → get_or book i 0 ≡ entry_of i
unfolding book
book_at i h = tab_at 0 entry_of 3630 i h

book-curve : (class quantity v : ℕ) → Driven class v → (class ≡ 5 → ⊥) → quantity < 5 → get_or book (entry_place (place_of class) quantity (v - 10)) 0 ≡ nat_abs (curve class quantity v)
unfolding entry_of
book-curve class quantity v d n h =
    let p = placed class v d n in
    let i = entry_place (place_of class) quantity (v - 10) in
    let a : i / 605 ≡ place_of class = omega (arith, p.0) in
    let b : i / 121 % 5 ≡ quantity = omega (arith, p.0) in
    let s : 10 + i % 121 ≡ v = omega (arith, p.0) in
    book_at i (omega (arith, p.0)) ∙ (λ j. nat_abs (curve (class_at (a j)) (b j) (s j))) ∙ ap (λ m. nat_abs (curve m quantity v)) p.1

book_length : length book ≡ 3630
unfolding book
book_length = tab_length entry_of 3630

every_entry : (i : ℕ) → i < 3630 → pos (get_or book i 0) ≡ curve (class_at (i / 605)) (i / 121 % 5) (10 + i % 121)
unfolding entry_of
every_entry i h =
    let d = driven_roads (i / 605) (10 + i % 121) (omega arith) (omega arith) (omega arith) in
    ap pos (book_at i h) ∙ curve_kept (class_at (i / 605)) (i / 121 % 5) (10 + i % 121) d.0.0 (omega arith)

entry_curve : (class quantity v : ℕ) → Driven class v → (class ≡ 5 → ⊥) → quantity < 5 → pos (get_or book (entry_place (place_of class) quantity (v - 10)) 0) ≡ curve class quantity v
entry_curve class quantity v d n h = ap pos (book-curve class quantity v d n h) ∙ curve_kept class quantity v d h

entry_factor : (class quantity road v : ℕ) → Driven class v → (class ≡ 5 → ⊥) → quantity < 5 → get_or book (entry_place (place_of class) quantity (v - 10)) 0 ≡ emission_factor class quantity road v
unfolding emission_factor
entry_factor class quantity road v d n h = book-curve class quantity v d n h ∙ rw (ne_eqb class 5 n) refl

-- what the curves give for a quantity at one speed on all roads
pub factor_curve : (class quantity v : ℕ) (f : List ℕ) → f ≡ tab (factor_at class v v v) 15 → (class ≡ 5 → ⊥) → quantity < 5 → get_or f (quantity * 3) 0 ≡ nat_abs (curve class quantity v)
unfolding emission_factor
factor_curve class quantity v f e n h = factor_read class v v v f quantity 0 (quantity * 3) e h (omega arith) (omega arith) ∙ rw (ne_eqb class 5 n) refl

pub book_claim : BookClaim
book_claim = record { entries = book_length; every_entry = every_entry; entry_curve = entry_curve; entry_factor = entry_factor }
