-- What `(0..n).all(..)` tells: `all_below` of the test that the closure makes; and `array::from_fn`: the `tab` of what the closure
-- gives. Assumes nothing.
use mathlib.Core.Path.{◌≡◌, refl, sym, ◌∙◌}
use mathlib.Core.Logic.{⊎_elim}
use mathlib.Core.Bool.{Bool, true, false, ◌&&◌}
use mathlib.Core.List.{List}
use Prim.Native.Nat.{ℕ, zero, suc, ◌+◌, ◌≤◌, ◌<◌}
use native.Mathlib.Nat.{eq-or-lt_of_le}
use native.Mathlib.Numerals.{add-one}
use native.Mathlib.Omega.{arith}
use denote.Param.Members.{Mut}
use Rattle.std.proofs.iter.Yields.{nat_range_steps}
use lib.ListN.{length, get_or}
use Rattle.std.specs.Array.{IsFromFnResult, IsFromFnResultFrom}
use Rattle.std.specs.Fn.{Called}
use Rattle.std.specs.Iterator.{YieldsThen}
use Rattle.std.specs.List.{FoldsTo, list_all, range_with_len}
use Rattle.std.specs.Option.{MatchOption}
use Rattle.std.specs.Prelude.{Option}
use Rattle.std.proofs.lemmas.Iterator.{YieldsList-from_range}
use Rattle.std.proofs.lemmas.Iterator.Search.{all_from_yields_List}
use Rattle.units.specs.Lists.{all_below, tab}
use Rattle.units.proofs.Tab.{tab_of}

and_assoc : (a b c : Bool) → (a && (b && c)) ≡ ((a && b) && c)
and_assoc true b c = refl
and_assoc false b c = refl

and_true : (a : Bool) → (a && true) ≡ a
and_true true = refl
and_true false = refl

listed_from : (test : ℕ → Bool) (a n : ℕ) → (all_below test a && list_all test (range_with_len a n)) ≡ all_below test (a + n)
unfolding all_below
listed_from test a zero = let z : a + 0 ≡ a = omega arith in rw z (and_true (all_below test a))
listed_from test a (suc n) =
    let z : a + suc n ≡ suc a + n = omega arith in
    rw (z, add-one) (and_assoc (all_below test a) (test a) (list_all test (range_with_len (suc a) n)) ∙ listed_from test (suc a) n)

pub all_listed : (test : ℕ → Bool) (n : ℕ) → list_all test (range_with_len 0 n) ≡ all_below test n
unfolding all_below
all_listed test n = let z : 0 + n ≡ n = omega arith in let e = listed_from test 0 n in rw z at e

pub all_range : {F : Type 0} {g : Mut F (ℕ × Unit {0}) Bool} {s : _} (test : ℕ → Bool) (n : ℕ) (u : _) (f : F) (r : Bool)
    → (xs : List ℕ) × (o : Option ℕ) × (j : F) × YieldsThen nat_range_steps s xs o u × FoldsTo (λ p x q. Called g p (x, tt) true q) f xs j × MatchOption o (r ≡ true) (λ x. (r ≡ false) × ((h : F) × Called g j (x, tt) false h))
    → s ≡ record { start = 0; end = n } → ((x : ℕ) (b : Bool) (q : F) → Called g f (x, tt) b q → (q ≡ f) × (b ≡ test x)) → r ≡ all_below test n
all_range test n u f r d e k = all_from_yields_List test u f r d (YieldsList-from_range 0 n n e (omega arith)) k ∙ all_listed test n

module _ {F B : Type 0} {g : Mut F (ℕ × Unit {0}) B} (d : B) (h : ℕ → B) (f : F) (ys : List B) (k : (i : ℕ) (y : B) (q : F) → Called g f (i, tt) y q → (q ≡ f) × (y ≡ h i)) where
  made_at : (i n : ℕ) → IsFromFnResultFrom g f ys i n → (j : ℕ) → i ≤ j → j < i + n → h j ≡ get_or ys j d
  made_at i zero c j a b = absurd (omega arith)
  made_at i (suc n) c j a b =
      let e = k i c.1 c.0 c.3 in
      let r = rw e.0 at c.4 in
      ⊎_elim (λ (z : i ≡ j). rw (← z) (sym (c.2.1 d ∙ e.1))) (λ (l : i < j). made_at (i + 1) n r j (omega arith) (omega arith)) (eq-or-lt_of_le a)

  pub tab_made : (n : ℕ) → IsFromFnResult g f ys n → ys ≡ tab h n
  tab_made n c = sym (tab_of d h ys n c.long (λ i b. made_at 0 n c.each i (omega arith) (omega arith)))

-- the same, where the closure reads a list
pub list_made : {F B : Type 0} {g : Mut F (ℕ × Unit {0}) B} (d : B) (l : List B) (n : ℕ) (f : F) (ys : List B) → IsFromFnResult g f ys n → length l ≡ n
    → ((i : ℕ) (y : B) (q : F) → Called g f (i, tt) y q → (q ≡ f) × (y ≡ get_or l i d)) → ys ≡ l
list_made d l n f ys c e k = tab_made d (λ i. get_or l i d) f ys k n c ∙ tab_of d (λ i. get_or l i d) l n e (λ i b. refl)
