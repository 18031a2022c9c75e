-- What SPECIFICATION, "Factor book", says of every entry, as one claim.
-- Assumes nothing.
use Rattle.std.specs.Prelude.{ℕ, ◌+◌, ◌-◌, ◌/◌, ◌%◌, ◌<◌, ◌≡◌, pos, length, get_or}
use Rattle.factors.specs.Factors.{Driven, curve, emission_factor}
use Rattle.book_entries.specs.Book.{class_at, place_of, entry_place, book}

pub record BookClaim : Type 0 where
  -- 6 classes, 5 quantities, 121 speeds
  pub entries : length book ≡ 3630
  -- each of them is its curve, nothing rounded and nothing cut
  pub every_entry : (i : ℕ) → i < 3630 → pos (get_or book i 0) ≡ curve (class_at (i / 605)) (i / 121 % 5) (10 + i % 121)
  -- found by class, quantity and speed
  pub entry_curve : (class quantity v : ℕ) → Driven class v → (class ≡ 5 → ⊥) → quantity < 5 → pos (get_or book (entry_place (place_of class) quantity (v - 10)) 0) ≡ curve class quantity v
  -- and E on every road
  pub entry_factor : (class quantity road v : ℕ) → Driven class v → (class ≡ 5 → ⊥) → quantity < 5 → get_or book (entry_place (place_of class) quantity (v - 10)) 0 ≡ emission_factor class quantity road v
