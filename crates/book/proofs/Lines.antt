-- Laws of what is read from the book: the line of a class on its page, and three lines as the 15 factors. Assumes nothing.
use mathlib.Core.Path.{◌≡◌, refl, ◌∙◌}
use mathlib.Core.List.{List, [], ◌∷◌}
use Prim.Native.Nat.{ℕ, zero, suc, ◌+◌, ◌*◌, ◌-◌, ◌/◌, ◌%◌, ◌<◌}
use native.Mathlib.Omega.{arith}
use lib.ListN.{get_or}
use Rattle.units.specs.declared.Speed.{Speed}
use Rattle.units.specs.Lists.{tab}
use Rattle.units.proofs.Tab.{tab_at, tab_alike}
use Rattle.factors.specs.Factors.{Driven, emission_factor, factor_at}
use Rattle.book_entries.specs.Book.{place_of, entry_place, book}
use Rattle.book_entries.proofs.Book.{book_claim}
use Rattle.book_lines.specs.Lines.{line_of, page_of}

-- line c of a page
pub page_line : (t : List ℕ) (p : List (List ℕ)) (place k c : ℕ) → p ≡ page_of t (place / 2 * 121 + k) → k < 121 → place % 2 ≡ c → get_or p c [] ≡ line_of t place k
unfolding page_of
page_line t p place k c e h m =
    let a : (place / 2 * 121 + k) / 121 * 2 + c ≡ place = omega arith in
    let b : (place / 2 * 121 + k) % 121 ≡ k = omega arith in
    rw e (tab_at [] (λ i. line_of t ((place / 2 * 121 + k) / 121 * 2 + i) ((place / 2 * 121 + k) % 121)) 2 c (omega arith)) ∙ (λ i. line_of t (a i) (b i))

-- a number of the line of a class and a speed is its factor
line_factor : (class q road v : ℕ) → Driven class v → (class ≡ 5 → ⊥) → q < 5 → get_or (line_of book (place_of class) (v - 10)) q 0 ≡ emission_factor class q road v
unfolding line_of
line_factor class q road v d n h = tab_at 0 (λ q. get_or book (entry_place (place_of class) q (v - 10)) 0) 5 q h ∙ book_claim.entry_factor class q road v d n h

-- the number of a road's speed
pub road_speed : (u r h : Speed) (road : ℕ) → (get_or (u ∷ r ∷ h ∷ []) road (record { 0 = 0 })).0 ≡ get_or (u.0 ∷ r.0 ∷ h.0 ∷ []) road 0
road_speed u r h zero = refl
road_speed u r h (suc zero) = refl
road_speed u r h (suc (suc zero)) = refl
road_speed u r h (suc (suc (suc i))) = refl

-- a road's speed can be driven if the three can
pub roads : (class u r h : ℕ) → Driven class u → Driven class r → Driven class h → (road : ℕ) → road < 3 → Driven class (get_or (u ∷ r ∷ h ∷ []) road 0)
roads class u r h a b c zero l = a
roads class u r h a b c (suc zero) l = b
roads class u r h a b c (suc (suc zero)) l = c
roads class u r h a b c (suc (suc (suc i))) l = absurd (omega arith)

-- the line of a road
abbrev pub road_line : ℕ → ℕ → ℕ → ℕ → ℕ → List ℕ
road_line class u r h road = line_of book (place_of class) (get_or (u ∷ r ∷ h ∷ []) road 0 - 10)

-- the lines of three roads are the 15 factors
pub lines_factors : (class u r h : ℕ) (lines : List (List ℕ)) → Driven class u → Driven class r → Driven class h → (class ≡ 5 → ⊥) → lines ≡ tab (road_line class u r h) 3
    → tab (λ i. get_or (get_or lines (i % 3) []) (i / 3) 0) 15 ≡ tab (factor_at class u r h) 15
unfolding factor_at
lines_factors class u r h lines du dr dh n e =
    tab_alike (λ i. get_or (get_or lines (i % 3) []) (i / 3) 0) (factor_at class u r h) 15
    (λ i l. rw (e, tab_at [] (road_line class u r h) 3 (i % 3) (omega arith)) (line_factor class (i / 3) (i % 3) (get_or (u ∷ r ∷ h ∷ []) (i % 3) 0) (roads class u r h du dr dh (i % 3) (omega arith)) n (omega arith)))
