-- The factor book (SPECIFICATION, "Factor book"): E for every class but 5, every quantity and every whole speed from 10 to 130,
-- in that order.
-- Assumes nothing.
use Rattle.std.specs.Prelude.{ℕ, ◌+◌, ◌*◌, ◌-◌, ◌/◌, ◌%◌, cond, List, [], ◌∷◌, ltb, nat_abs, get_or}
use Rattle.units.specs.Lists.{tab}
use Rattle.factors.specs.Factors.{curve}

-- the classes of the book, by place: every class but 5
unfoldable pub class_at : ℕ → ℕ
class_at place = get_or (1 ∷ 2 ∷ 3 ∷ 4 ∷ 6 ∷ 7 ∷ []) place 0

-- the place of a class
unfoldable pub place_of : ℕ → ℕ
place_of class = cond (ltb class 5) (class - 1) (class - 2)

-- which entry is that of the class at a place, a quantity and speed 10 + k
abbrev pub entry_place : ℕ → ℕ → ℕ → ℕ
entry_place place quantity k = (place * 5 + quantity) * 121 + k

-- entry i: the value of its curve, which is not negative from 10 to 130
unfoldable pub entry_of : ℕ → ℕ
entry_of i = nat_abs (curve (class_at (i / 605)) (i / 121 % 5) (10 + i % 121))

-- the book: 6 classes, 5 quantities, 121 speeds
unfoldable pub book : List ℕ
book = tab entry_of 3630
