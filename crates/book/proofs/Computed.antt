-- The book as antt computes it: entry by entry from the front, where `tab` would append each to all before it.
-- Assumes nothing.
use mathlib.Core.Path.{◌≡◌, refl, ap, sym, ◌∙◌}
use mathlib.Core.List.{List, [], ◌∷◌, ◌++◌}
use Prim.Native.Nat.{ℕ, zero, suc, ◌+◌}
use native.Mathlib.Nat.{add-zero, zero-add, add-suc, suc-add}
use Rattle.units.specs.Lists.{tab}
use Rattle.book_entries.specs.Book.{entry_of, book}

-- f i, f (i + 1), .., n of them
abbrev pub listed : (ℕ → ℕ) → ℕ → ℕ → List ℕ
listed f i zero = []
listed f i (suc n) = f i ∷ listed f (suc i) n

listed_last : (f : ℕ → ℕ) (n i : ℕ) → listed f i (suc n) ≡ listed f i n ++ (f (i + n) ∷ [])
listed_last f zero i = ap (λ m. f m ∷ []) (sym (add-zero i))
listed_last f (suc n) i = ap (λ l. f i ∷ l) (listed_last f n (suc i) ∙ ap (λ m. listed f (suc i) n ++ (f m ∷ [])) (suc-add i n ∙ sym (add-suc i n)))

listed_tab : (f : ℕ → ℕ) (n : ℕ) → listed f 0 n ≡ tab f n
unfolding tab
listed_tab f zero = refl
listed_tab f (suc n) = listed_last f n 0 ∙ rw (listed_tab f n, zero-add n) refl

pub listed_book : listed entry_of 0 3630 ≡ book
unfolding book
listed_book = listed_tab entry_of 3630
