-- Every list of adds to freshly opened areas. Assumes nothing.
use mathlib.Core.Path.{◌≡◌, refl, ap, sym, ◌∙◌}
use mathlib.Core.Bool.{Bool, true, false, not, cond}
use mathlib.Core.List.{List, [], ◌∷◌}
use Prim.Native.Nat.{ℕ, ◌+◌, ◌*◌, ◌<◌}
use native.Mathlib.Omega.{arith}
use lib.Dec.{eqb}
use lib.ListN.{length}
use borrow.Author.Tests.{eqb-true, eqb-false}
use Rattle.units.specs.Lists.{sum_to}
use Rattle.units.specs.Grounds.{first_fit}
use Rattle.inventory.specs.declared.Head.{Head}
use Rattle.inventory.specs.Limits.{Shaped}
use Rattle.inventory.specs.Order.{in_order}
use Rattle.inventory.specs.Opening.{open_number, open_run}
use Rattle.inventory.specs.Adding.{add_run}
use Rattle.inventory.proofs.Heads.{head_self}
use Rattle.inventory.proofs.Runs.{shaped_opened}
use Rattle.accuracy.specs.Conditions.{opening_number}
use Rattle.accuracy.specs.Reference.{empty, reference_from, reference_of}
use Rattle.accuracy.specs.Claim.{run_after, ListClaim, SameReport, EveryList}
use Rattle.accuracy.proofs.Measured.{takes_accepted}
use Rattle.accuracy.proofs.Conditions as conditions
use Rattle.accuracy.proofs.Whole as whole
use Rattle.areas.specs.Areas.{counts_of, common_use, areas_in_order, areas_with, opened_areas}
use Rattle.areas.specs.Numbers.{areas_of, numbers_of}
use Rattle.areas.specs.Calls.{size_ok, numbers_in_order, open_areas_number, open_areas_numbers, add_area_numbers, area_run}
use Rattle.areas.proofs.Numbers.{shaped_at, run_back}
use Rattle.areas.proofs.Order.{run_ok, records_most, order_areas, areas_ok, numbers_order}
use Rattle.areas.proofs.Adding.{run_given}
use Rattle.area_claims.specs.References.{AreaAdd, accepts_in, enters_area, counts_in, references_of, counts_with, accepted_in_from, accepted_in}
use Rattle.area_claims.specs.Claim.{numbers_after, AreasAfter, SameAcceptedIn, EveryAreasList, AreasClaim}
use Rattle.area_claims.proofs.OneAdd.{asks_number, add_number_lem, below_own, takes_in, accepts_low, accepts_own, accepts_few, accepts_alike, number_alike}
use Rattle.area_claims.proofs.Kept.{here, there, count_next, shaped_next, order_next}
use Rattle.area_claims.proofs.Zeros.{zeros_left}
use Rattle.area_claims.proofs.Joined.{joined_areas}
use Rattle.area_claims.proofs.References.{room_own, entered, passed_by, references_are, all_accepted}

-- ---- one add on numbers in order

all_shaped : (numbers : List ℕ) (i : ℕ) → i < 16 → Shaped ((areas_of numbers).runs i)
unfolding areas_of
all_shaped numbers i h = shaped_at numbers (i * 171)

module _ (numbers : List ℕ) (o : numbers_in_order numbers ≡ true) (add : AreaAdd) where
  -- refused: every number stays
  left_out : accepts_in (counts_of (areas_of numbers)) add ≡ false → add_area_numbers numbers add.area add.rec ≡ numbers
  unfolding add_area_numbers
  left_out t = rw (takes_in numbers o add, t)

  module _ (t : accepts_in (counts_of (areas_of numbers)) add ≡ true) where
    put_in : add_area_numbers numbers add.area add.rec ≡ numbers_of (areas_with (areas_of numbers) add.area add.rec)
    unfolding add_area_numbers
    put_in = rw (takes_in numbers o add, t)

    shaped_in : (i : ℕ) → i < 16 → Shaped ((areas_with (areas_of numbers) add.area add.rec).runs i)
    shaped_in = shaped_next (areas_of numbers) add (all_shaped numbers) (accepts_low (counts_of (areas_of numbers)) add t)

    order_in : numbers_in_order (add_area_numbers numbers add.area add.rec) ≡ true
    order_in =
        ap numbers_in_order put_in ∙ numbers_order (areas_with (areas_of numbers) add.area add.rec) shaped_in
        ∙ order_next (areas_of numbers) add (areas_ok numbers o) t

    runs_in : (i : ℕ) → i < 16 → (areas_of (add_area_numbers numbers add.area add.rec)).runs i ≡ (areas_with (areas_of numbers) add.area add.rec).runs i
    runs_in i h = ap (λ l. (areas_of l).runs i) put_in ∙ run_back (areas_with (areas_of numbers) add.area add.rec) i h (shaped_in i h)

    -- in the area asked for, the run is the one that a single add gives
    run_here : (i : ℕ) → i < 16 → i ≡ add.area → (areas_of (add_area_numbers numbers add.area add.rec)).runs i ≡ add_run ((areas_of numbers).runs i) add.rec
    unfolding add_run
    run_here i h q =
        let r = run_ok (areas_of numbers) (areas_ok numbers o) add.area (accepts_low (counts_of (areas_of numbers)) add t) in
        let f = accepts_few (counts_of (areas_of numbers)) add t in
        runs_in i h ∙ here (areas_of numbers) add i q
        ∙ rw (
          q,
          takes_accepted ((areas_of numbers).runs add.area) add.rec r,
          room_own (counts_of (areas_of numbers) add.area) add.rec (accepts_own (counts_of (areas_of numbers)) add t) (omega (arith, f)),
        )

    run_there : (i : ℕ) → i < 16 → (i ≡ add.area → ⊥) → (areas_of (add_area_numbers numbers add.area add.rec)).runs i ≡ (areas_of numbers).runs i
    run_there i h q = runs_in i h ∙ there (areas_of numbers) add i q

    counts_in_lem : (j : ℕ) → j < 16
        → counts_of (areas_of (add_area_numbers numbers add.area add.rec)) j ≡ cond (eqb j add.area) (counts_of (areas_of numbers) j + 1) (counts_of (areas_of numbers) j)
    counts_in_lem j h = ap (λ r. r.count) (runs_in j h) ∙ count_next (areas_of numbers) add j _ refl

-- ---- every list, from any numbers in order whose counts are these

pub record After (numbers : List ℕ) (counts : ℕ → ℕ) (adds : List AreaAdd) : Type 0 where
  pub ordered : numbers_in_order (numbers_after numbers adds) ≡ true
  pub run : (i : ℕ) → i < 16 → (areas_of (numbers_after numbers adds)).runs i ≡ run_after ((areas_of numbers).runs i) (accepted_in_from i counts adds)

abbrev Counted : List ℕ → (ℕ → ℕ) → Type 0
Counted numbers counts = (j : ℕ) → j < 16 → counts_of (areas_of numbers) j ≡ counts j

module _ (numbers : List ℕ) (o : numbers_in_order numbers ≡ true) (counts : ℕ → ℕ) (n : Counted numbers counts) (add : AreaAdd) (adds : List AreaAdd)
    (go : (l : List ℕ) (f : ℕ → ℕ) → numbers_in_order l ≡ true → Counted l f → After l f adds) where
  abbrev next : List ℕ
  next = add_area_numbers numbers add.area add.rec

  same : accepts_in (counts_of (areas_of numbers)) add ≡ accepts_in counts add
  same = accepts_alike (counts_of (areas_of numbers)) counts n add

  -- refused
  module _ (t : accepts_in counts add ≡ false) where
    enters_none : (i : ℕ) → enters_area counts add i ≡ false
    unfolding enters_area
    enters_none i = rw t

    counted_out : Counted numbers (counts_with counts add)
    counted_out j h = n j h ∙ sym (passed_by j counts add adds (enters_none j)).1

    pub refused : After numbers counts (add ∷ adds)
    unfolding numbers_after
    refused =
        let p = go numbers (counts_with counts add) o counted_out in
        let e = left_out numbers o add (same ∙ t) in
        record {
          ordered = ap (λ l. numbers_in_order (numbers_after l adds)) e ∙ p.ordered;
          run =
              λ i h.
              ap (λ l. (areas_of (numbers_after l adds)).runs i) e ∙ p.run i h
              ∙ ap (run_after ((areas_of numbers).runs i)) (sym (passed_by i counts add adds (enters_none i)).0);
        }

  -- accepted
  module _ (t : accepts_in counts add ≡ true) where
    enters_is : (i : ℕ) → enters_area counts add i ≡ eqb i add.area
    unfolding enters_area
    enters_is i = rw t

    counted_by : (j : ℕ) (b : Bool) → j < 16 → eqb j add.area ≡ b → counts_of (areas_of next) j ≡ counts_with counts add j
    counted_by j true h e =
        counts_in_lem numbers o add (same ∙ t) j h ∙ rw (e, n j h) (sym (entered j counts add adds (enters_is j ∙ e)).1)
    counted_by j false h e =
        counts_in_lem numbers o add (same ∙ t) j h ∙ rw (e, n j h) (sym (passed_by j counts add adds (enters_is j ∙ e)).1)

    after : After next (counts_with counts add) adds
    after = go next (counts_with counts add) (order_in numbers o add (same ∙ t)) (λ j h. counted_by j _ h refl)

    run_by : (i : ℕ) (b : Bool) → i < 16 → eqb i add.area ≡ b
        → run_after ((areas_of next).runs i) (accepted_in_from i (counts_with counts add) adds) ≡ run_after ((areas_of numbers).runs i) (accepted_in_from i counts (add ∷ adds))
    unfolding run_after
    run_by i true h e =
        rw (entered i counts add adds (enters_is i ∙ e)).0
        (ap (λ r. run_after r (accepted_in_from i (counts_with counts add) adds)) (run_here numbers o add (same ∙ t) i h (eqb-true i add.area e)))
    run_by i false h e =
        rw (passed_by i counts add adds (enters_is i ∙ e)).0
        (ap (λ r. run_after r (accepted_in_from i (counts_with counts add) adds)) (run_there numbers o add (same ∙ t) i h (eqb-false i add.area e)))

    pub taken : After numbers counts (add ∷ adds)
    unfolding numbers_after
    taken = record { ordered = after.ordered; run = λ i h. after.run i h ∙ run_by i _ h refl }

  pub step : (t : Bool) → accepts_in counts add ≡ t → After numbers counts (add ∷ adds)
  step true t = taken t
  step false t = refused t

after_none : (numbers : List ℕ) (counts : ℕ → ℕ) → numbers_in_order numbers ≡ true → After numbers counts []
unfolding numbers_after accepted_in_from run_after
after_none numbers counts o = record { ordered = o; run = λ i h. refl }

after_list : (adds : List AreaAdd) (numbers : List ℕ) (counts : ℕ → ℕ) → numbers_in_order numbers ≡ true → Counted numbers counts → After numbers counts adds
after_list [] numbers counts o n = after_none numbers counts o
after_list (add ∷ adds) numbers counts o n = step numbers o counts n add adds (after_list adds) _ refl

-- ---- freshly opened areas

-- what opening that is taken has
taken_by : (numbers : List ℕ) (head : Head) (b : Bool) → size_ok numbers ≡ b → open_areas_number numbers head ≡ 0 → (size_ok numbers ≡ true) × (open_number head ≡ 0)
unfolding open_areas_number open_number first_fit
taken_by numbers head true e z = (e, rw e at z)
taken_by numbers head false e z = let y : ◌≡◌ {A = ℕ} 16 0 = rw e at z in absurd (omega arith)

module _ (head : Head) (taken : open_number head ≡ 0) where
  lists : EveryList head
  lists = whole.every_list head taken

  abbrev fresh : List ℕ
  fresh = numbers_of (opened_areas head)

  run_fresh : (i : ℕ) → i < 16 → (areas_of fresh).runs i ≡ open_run head
  unfolding opened_areas
  run_fresh i h = run_back (opened_areas head) i h (shaped_opened head)

  order_run : in_order (open_run head) ≡ true
  unfolding run_after
  order_run = (lists.list []).ordered

  count_run : (open_run head).count ≡ 0
  unfolding run_after reference_of reference_from empty
  count_run = (lists.list []).count

  use_none : (n : ℕ) → n ≡ 0 → 0 ≡ common_use (λ j. n)
  unfolding common_use sum_to
  use_none n e = rw e

  order_opened : areas_in_order (opened_areas head) ≡ true
  unfolding opened_areas
  order_opened = order_areas (opened_areas head) (λ i h. rw (order_run, head_self (open_run head))) (use_none (open_run head).count count_run) (omega arith)

  order_fresh : numbers_in_order fresh ≡ true
  unfolding opened_areas
  order_fresh = numbers_order (opened_areas head) (λ i h. shaped_opened head) ∙ order_opened

  counted_fresh : Counted fresh (λ j. 0)
  counted_fresh j h = ap (λ r. r.count) (run_fresh j h) ∙ count_run

  module _ (adds : List AreaAdd) where
    abbrev last : List ℕ
    last = numbers_after fresh adds

    after_adds : After fresh (λ j. 0) adds
    after_adds = after_list adds fresh (λ j. 0) order_fresh counted_fresh

    pub run_is : (i : ℕ) → i < 16 → area_run last i ≡ run_after (open_run head) (accepted_in i adds)
    unfolding accepted_in
    run_is i h =
        sym (run_given last i after_adds.ordered (omega arith)).1 ∙ after_adds.run i h
        ∙ ap (λ r. run_after r (accepted_in_from i (λ j. 0) adds)) (run_fresh i h)

    each : (i : ℕ) → i < 16 → ListClaim (area_run last i) (references_of head adds i)
    each i h = rw (run_is i h, references_are head adds i) (lists.list (accepted_in i adds))

    counted_last : Counted last (counts_in (references_of head adds))
    counted_last j h = ap (λ r. r.count) (run_given last j after_adds.ordered (omega arith)).1 ∙ (each j h).count

    listed : AreasAfter head adds last (references_of head adds)
    listed =
        record {
          takes = λ add. takes_in last after_adds.ordered add ∙ accepts_alike (counts_of (areas_of last)) (counts_in (references_of head adds)) counted_last add;
          adds_number =
              λ add.
              add_number_lem last after_adds.ordered add.area add.rec
              ∙ number_alike (counts_of (areas_of last)) (counts_in (references_of head adds)) counted_last add.area add.rec;
          ordered = after_adds.ordered;
          runs_number = asks_number last after_adds.ordered;
          run = run_is;
          each = each;
          reference = λ i h. references_are head adds i;
          joined =
              joined_areas head taken (λ i. accepted_in i adds) last after_adds.ordered run_is (references_of head adds) (λ i h. references_are head adds i);
        }

  reordered : (adds others : List AreaAdd) (i : ℕ) → i < 16 → SameAcceptedIn i adds others → SameReport (area_run (numbers_after fresh adds) i) (area_run (numbers_after fresh others) i)
  reordered adds others i h s =
      rw (run_is adds i h, run_is others i h)
      (lists.order (accepted_in i adds) (accepted_in i others) (λ rec. rw (all_accepted i adds, all_accepted i others) (s rec)))

  every : EveryAreasList head fresh
  every = record { list = listed; order = reordered }

-- ---- the claim

opening : (numbers : List ℕ) (head : Head)
    → open_areas_number numbers head ≡ cond (not (eqb (length numbers) 2737)) 16 (opening_number head)
unfolding open_areas_number first_fit open_number
opening numbers head = ap (λ n. cond (not (eqb (length numbers) 2737)) 16 n) (conditions.opening head)

every_list : (numbers : List ℕ) (head : Head) → open_areas_number numbers head ≡ 0 → EveryAreasList head (open_areas_numbers numbers head)
unfolding open_areas_numbers
every_list numbers head z = let p = taken_by numbers head _ refl z in rw p.0 (every head p.1)

pub areas_claim : AreasClaim
areas_claim =
    record {
      opening = opening;
      zeros = zeros_left;
      lists = every_list;
      kept = λ numbers adds o. (after_list adds numbers (counts_of (areas_of numbers)) o (λ j h. refl)).ordered;
      shared = λ numbers o. records_most (areas_of numbers) (areas_ok numbers o);
      room = λ numbers add o. add_number_lem numbers o add.area add.rec;
      never_starved = λ numbers area rec o low few own. below_own numbers o area rec low few own;
    }
