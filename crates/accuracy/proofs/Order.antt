-- The order of the adds has no effect: lists whose accepted records are the same in any order end in the same run.
-- Assumes nothing.
use mathlib.Core.Path.{◌≡◌, refl, sym, ap, ◌∙◌}
use mathlib.Core.Bool.{Bool, true, false, cond, ◌&&◌}
use mathlib.Core.List.{List, [], ◌∷◌}
use Prim.Native.Nat.{ℕ, ◌+◌, ◌<◌}
use native.Mathlib.Omega.{arith}
use borrow.Author.Tests.{eqb-true, eq-eqb}
use lib.Dec.{eqb}
use lib.ListN.{length}
use Rattle.units.proofs.Tests.{and_left, and_right}
use Rattle.units.proofs.Tab.{tab_alike}
use Rattle.inventory.specs.declared.Record.{Record}
use Rattle.inventory.specs.Adding.{billionths, part_at, km_of}
use Rattle.inventory.proofs.Runs.{totals_by}
use Rattle.accuracy.specs.Reference.{same_record, occurs}
use Rattle.accuracy.proofs.Sums.{sum_of}
use Rattle.accuracy.proofs.Closed.{slot_sum, km_sum, kms_of, grams_of, rest_of, closed_sums, closed}

-- ---- sameness is equality

-- tests joined from the left, and each of them
abbrev joined : Bool → List Bool → Bool
joined b [] = b
joined b (c ∷ cs) = joined (b && c) cs

abbrev Holds : List Bool → Type 0
Holds [] = Unit
Holds (b ∷ bs) = (b ≡ true) × Holds bs

each_holds : (b : Bool) (cs : List Bool) → joined b cs ≡ true → (b ≡ true) × Holds cs
each_holds b [] e = (e, tt)
each_holds b (c ∷ cs) e =
    let p : ((b && c) ≡ true) × Holds cs = each_holds (b && c) cs e in
    (and_left b c p.0, (and_right b c p.0, p.1))

-- the fields behind the class
abbrev others : Record → Record → List Bool
others a b =
    eqb a.vehicles b.vehicles ∷ eqb a.km b.km
    ∷ eqb a.shares.urban b.shares.urban ∷ eqb a.shares.rural b.shares.rural ∷ eqb a.shares.highway b.shares.highway
    ∷ eqb a.speeds.urban.0 b.speeds.urban.0 ∷ eqb a.speeds.rural.0 b.speeds.rural.0 ∷ eqb a.speeds.highway.0 b.speeds.highway.0
    ∷ []

pub same_equal : (a b : Record) → same_record a b ≡ true → a ≡ b
unfolding same_record
same_equal a b e =
    let t : (eqb a.class b.class ≡ true) × Holds (others a b) = each_holds (eqb a.class b.class) (others a b) e in
    λ i. record {
      class = eqb-true a.class b.class t.0 i;
      vehicles = eqb-true a.vehicles b.vehicles t.1.0 i;
      km = eqb-true a.km b.km t.1.1.0 i;
      shares =
          record {
            urban = eqb-true a.shares.urban b.shares.urban t.1.1.1.0 i;
            rural = eqb-true a.shares.rural b.shares.rural t.1.1.1.1.0 i;
            highway = eqb-true a.shares.highway b.shares.highway t.1.1.1.1.1.0 i;
          };
      speeds =
          record {
            urban = record { 0 = eqb-true a.speeds.urban.0 b.speeds.urban.0 t.1.1.1.1.1.1.0 i };
            rural = record { 0 = eqb-true a.speeds.rural.0 b.speeds.rural.0 t.1.1.1.1.1.1.1.0 i };
            highway = record { 0 = eqb-true a.speeds.highway.0 b.speeds.highway.0 t.1.1.1.1.1.1.1.1.0 i };
          };
    }

pub same_self : (a : Record) → same_record a a ≡ true
unfolding same_record
same_self a =
    let own : (n : ℕ) → eqb n n ≡ true = λ n. eq-eqb n n refl in
    rw (own a.class, own a.vehicles, own a.km, own a.shares.urban, own a.shares.rural, own a.shares.highway, own a.speeds.urban.0, own a.speeds.rural.0, own a.speeds.highway.0)

-- ---- lists in which each record occurs equally often have the same sums

-- how often a record occurs is a sum over the list, and so is the length
occurs_sum : (c : Record) (l : List Record) → occurs c l ≡ sum_of (λ b. cond (same_record c b) 1 0) l
unfolding occurs sum_of
occurs_sum c [] = refl
occurs_sum c (b ∷ l) = rw (occurs_sum c l)

length_sum : (l : List Record) → length l ≡ sum_of (λ b. 1) l
unfolding sum_of
length_sum [] = refl
length_sum (b ∷ l) = omega (arith, length_sum l)

-- the list without the first a
without : Record → List Record → List Record
without a [] = []
without a (b ∷ l) = cond (same_record a b) l (b ∷ without a l)

without_sum : (g : Record → ℕ) (a : Record) (l : List Record) → 0 < occurs a l → sum_of g l ≡ g a + sum_of g (without a l)
unfolding sum_of without occurs
without_sum g a [] p = omega arith
without_sum g a (b ∷ l) p = go (same_record a b) refl p (λ o. without_sum g a l o)
  where
    go : (t : Bool) → same_record a b ≡ t → 0 < cond t 1 0 + occurs a l → (0 < occurs a l → sum_of g l ≡ g a + sum_of g (without a l))
        → g b + sum_of g l ≡ g a + sum_of g (cond t l (b ∷ without a l))
    go true e o again = rw (same_equal a b e)
    go false e o again = omega (arith, again (omega arith))

pub sums_same : (g : Record → ℕ) (l m : List Record) → ((rec : Record) → occurs rec l ≡ occurs rec m) → sum_of g l ≡ sum_of g m
unfolding sum_of occurs
sums_same g [] [] h = refl
sums_same g [] (b ∷ m) h = omega (arith, rw (same_self b) at (h b))
sums_same g (a ∷ l) m h =
    let some : 0 < occurs a m = omega (arith, rw (same_self a) at (h a)) in
    let rest : (c : Record) → occurs c l ≡ occurs c (without a m) =
    λ c. omega (arith, h c, occurs_sum c m, without_sum (λ b. cond (same_record c b) 1 0) a m some, occurs_sum c (without a m)) in
    omega (arith, sums_same g l (without a m) rest, without_sum g a m some)

-- ---- the run

pub closed_same : (trip : ℕ) (xs : List ℕ) (l m : List Record) → ((rec : Record) → occurs rec l ≡ occurs rec m) → closed trip xs l ≡ closed trip xs m
unfolding closed slot_sum km_sum
closed_same trip xs l m o =
    let sums : (j : ℕ) → slot_sum xs l j ≡ slot_sum xs m j = λ j. sums_same (λ rec. part_at xs rec j) l m o in
    totals_by (closed_sums trip xs l) (closed_sums trip xs m) refl refl
    (length_sum l ∙ sums_same (λ b. 1) l m o ∙ sym (length_sum m))
    (tab_alike (kms_of l) (kms_of m) 3 (λ f b. ap (λ k. record { 0 = k }) (sums_same (λ rec. km_of rec f) l m o)))
    (tab_alike (grams_of xs l) (grams_of xs m) 60 (λ j b. ap (λ n. (billionths n).grams) (sums j)))
    (tab_alike (rest_of xs l) (rest_of xs m) 60 (λ j b. ap (λ n. (billionths n).rest) (sums j)))
