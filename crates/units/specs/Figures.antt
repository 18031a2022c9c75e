-- Figures that the definitions give, held against those that SPECIFICATION prints.
-- Assumes nothing.
use Rattle.std.specs.Prelude.{ℕ, ◌≡◌, List, [], ◌∷◌}

pub record Figure : Type 0 where
  pub given : ℕ
  pub printed : ℕ

abbrev pub figure : ℕ → ℕ → Figure
figure g p = record { given = g; printed = p }

-- every figure of a table is the printed one
abbrev pub AllPrinted : List Figure → Type 0
AllPrinted [] = Unit
AllPrinted (f ∷ fs) = (f.given ≡ f.printed) × AllPrinted fs
