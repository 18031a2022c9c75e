-- A table in the order of the factor book, by lines and pages.
-- Assumes nothing.
use Rattle.std.specs.Prelude.{ℕ, zero, suc, ◌+◌, ◌*◌, ◌/◌, ◌%◌, ◌≡◌, List, get_or}
use Rattle.units.specs.Lists.{tab}
use Rattle.book_entries.specs.Book.{entry_place}

-- a line: the five quantities of the class at a place, 0 to 5, at speed 10 + k
unfoldable pub line_of : List ℕ → ℕ → ℕ → List ℕ
line_of t place k = tab (λ quantity. get_or t (entry_place place quantity k) 0) 5

-- page n, 0 to 362: two classes at one speed
unfoldable pub page_of : List ℕ → ℕ → List (List ℕ)
page_of t n = tab (λ c. line_of t (n / 121 * 2 + c) (n % 121)) 2

-- n is none of the numbers below m: what a `match` with an arm for each of them says in its last arm
abbrev pub Others : ℕ → ℕ → Type 0
Others zero n = Unit
Others (suc m) n = Others m n × (n ≡ m → ⊥)
