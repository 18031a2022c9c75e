-- The sixteen references, each as the reference of its area's accepted records. Assumes nothing.
use mathlib.Core.Path.{◌≡◌, refl, ap, sym, ◌∙◌}
use mathlib.Core.Bool.{Bool, true, false}
use mathlib.Core.List.{List, [], ◌∷◌}
use Prim.Native.Nat.{ℕ, ◌+◌, ◌<◌}
use native.Mathlib.Omega.{arith}
use lib.Dec.{eqb}
use borrow.Author.Tests.{eqb-true, lt-ltb}
use Rattle.units.proofs.Tests.{and_left, and_right}
use Rattle.inventory.specs.declared.Head.{Head}
use Rattle.inventory.specs.declared.Record.{Record}
use Rattle.accuracy.specs.Reference.{Reference, empty, with_record, fed, reference_from, reference_of, acceptable, accepts, has_room, accepted_from, accepted}
use Rattle.area_claims.specs.References.{AreaAdd, accepts_in, enters_area, counts_in, fed_areas, references_from, references_of, counts_with, accepted_in_from, accepted_in}
use Rattle.area_claims.proofs.OneAdd.{accepts_own, accepts_few}

funext : {A B : Type 0} {f g : A → B} → ((x : A) → f x ≡ g x) → f ≡ g
funext h = λ i x. h x i

-- a single run with room of its own takes an acceptable record
pub room_own : (n : ℕ) (rec : Record) → acceptable rec ≡ true → n < 5000 → accepts (has_room n) rec ≡ true
unfolding accepts has_room
room_own n rec a h = rw (a, lt-ltb n 5000 h)

-- an add that enters an area is one that its single run takes
pub enters_single : (counts : ℕ → ℕ) (add : AreaAdd) (i : ℕ) → enters_area counts add i ≡ true → accepts (has_room (counts i)) add.rec ≡ true
unfolding enters_area
enters_single counts add i q =
    let t = and_left (accepts_in counts add) (eqb i add.area) q in
    let z : i ≡ add.area = eqb-true i add.area (and_right (accepts_in counts add) (eqb i add.area) q) in
    rw z (room_own (counts add.area) add.rec (accepts_own counts add t) (omega (arith, accepts_few counts add t)))

-- ---- one add

module _ (i : ℕ) (counts : ℕ → ℕ) (add : AreaAdd) (adds : List AreaAdd) where
  pub entered : enters_area counts add i ≡ true
      → (accepted_in_from i counts (add ∷ adds) ≡ add.rec ∷ accepted_in_from i (counts_with counts add) adds) × (counts_with counts add i ≡ counts i + 1)
  unfolding accepted_in_from counts_with
  entered q = (rw q, rw q)

  pub passed_by : enters_area counts add i ≡ false
      → (accepted_in_from i counts (add ∷ adds) ≡ accepted_in_from i (counts_with counts add) adds) × (counts_with counts add i ≡ counts i)
  unfolding accepted_in_from counts_with
  passed_by q = (rw q, rw q)

-- ---- the references

module _ (head : Head) (ts : ℕ → Reference) (add : AreaAdd) where
  fed_in : (i : ℕ) → enters_area (counts_in ts) add i ≡ true → fed_areas head ts add i ≡ with_record head (ts i) add.rec
  unfolding fed_areas
  fed_in i q = rw q

  fed_out : (i : ℕ) → enters_area (counts_in ts) add i ≡ false → fed_areas head ts add i ≡ ts i
  unfolding fed_areas
  fed_out i q = rw q

  counts_fed : counts_with (counts_in ts) add ≡ counts_in (fed_areas head ts add)
  unfolding counts_with with_record
  counts_fed = funext (λ j. by j _ refl)
    where
      by : (j : ℕ) (b : Bool) → enters_area (counts_in ts) add j ≡ b → counts_with (counts_in ts) add j ≡ (fed_areas head ts add j).count
      by j true q = rw q (sym (ap (λ r. r.count) (fed_in j q)))
      by j false q = rw q (sym (ap (λ r. r.count) (fed_out j q)))

  abbrev Fed : (i : ℕ) → List AreaAdd → Type 0
  Fed i adds =
      reference_from head (fed_areas head ts add i) (accepted_in_from i (counts_in (fed_areas head ts add)) adds) ≡ reference_from head (ts i) (accepted_in_from i (counts_in ts) (add ∷ adds))

  single : (i : ℕ) (recs : List Record) → enters_area (counts_in ts) add i ≡ true
      → reference_from head (with_record head (ts i) add.rec) recs ≡ reference_from head (ts i) (add.rec ∷ recs)
  unfolding reference_from fed
  single i recs q = rw (enters_single (counts_in ts) add i q)

  fed_one : (i : ℕ) (adds : List AreaAdd) (b : Bool) → enters_area (counts_in ts) add i ≡ b → Fed i adds
  fed_one i adds true q =
      ap (λ r. reference_from head r (accepted_in_from i (counts_in (fed_areas head ts add)) adds)) (fed_in i q)
      ∙ ap (λ f. reference_from head (with_record head (ts i) add.rec) (accepted_in_from i f adds)) (sym counts_fed)
      ∙ single i (accepted_in_from i (counts_with (counts_in ts) add) adds) q
      ∙ ap (reference_from head (ts i)) (sym (entered i (counts_in ts) add adds q).0)
  fed_one i adds false q =
      ap (λ r. reference_from head r (accepted_in_from i (counts_in (fed_areas head ts add)) adds)) (fed_out i q)
      ∙ ap (λ f. reference_from head (ts i) (accepted_in_from i f adds)) (sym counts_fed)
      ∙ ap (reference_from head (ts i)) (sym (passed_by i (counts_in ts) add adds q).0)

references_from_lem : (head : Head) (adds : List AreaAdd) (ts : ℕ → Reference) (i : ℕ) → references_from head ts adds i ≡ reference_from head (ts i) (accepted_in_from i (counts_in ts) adds)
unfolding references_from accepted_in_from reference_from
references_from_lem head [] ts i = refl
references_from_lem head (add ∷ adds) ts i = references_from_lem head adds (fed_areas head ts add) i ∙ fed_one head ts add i adds _ refl

pub references_are : (head : Head) (adds : List AreaAdd) (i : ℕ) → references_of head adds i ≡ reference_of head (accepted_in i adds)
unfolding references_of reference_of accepted_in empty
references_are head adds i = references_from_lem head adds (λ j. empty head) i

-- ---- the accepted records of an area are all accepted by its single run

all_none : (i : ℕ) (counts : ℕ → ℕ) → accepted_from (counts i) (accepted_in_from i counts []) ≡ accepted_in_from i counts []
unfolding accepted_in_from accepted_from
all_none i counts = refl

all_one : (i : ℕ) (counts : ℕ → ℕ) (add : AreaAdd) (adds : List AreaAdd)
    → accepted_from (counts_with counts add i) (accepted_in_from i (counts_with counts add) adds) ≡ accepted_in_from i (counts_with counts add) adds
    → (b : Bool) → enters_area counts add i ≡ b → accepted_from (counts i) (accepted_in_from i counts (add ∷ adds)) ≡ accepted_in_from i counts (add ∷ adds)
unfolding accepted_from
all_one i counts add adds p true q =
    let e = entered i counts add adds q in
    let n = e.1 in
    rw (e.0, enters_single counts add i q, rw n at p)
all_one i counts add adds p false q =
    let e = passed_by i counts add adds q in
    let n = e.1 in
    rw e.0 (rw n at p)

all_from : (i : ℕ) (adds : List AreaAdd) (counts : ℕ → ℕ) → accepted_from (counts i) (accepted_in_from i counts adds) ≡ accepted_in_from i counts adds
all_from i [] counts = all_none i counts
all_from i (add ∷ adds) counts = all_one i counts add adds (all_from i adds (counts_with counts add)) _ refl

pub all_accepted : (i : ℕ) (adds : List AreaAdd) → accepted (accepted_in i adds) ≡ accepted_in i adds
unfolding accepted accepted_in
all_accepted i adds = all_from i adds (λ j. 0)
