-- Areas in order stay in order with an accepted record. Assumes nothing.
use mathlib.Core.Path.{◌≡◌, refl, ap, ◌∙◌}
use mathlib.Core.Bool.{Bool, true, false, cond}
use mathlib.Core.Logic.{⊎_elim}
use Prim.Native.Nat.{ℕ, ◌+◌, ◌-◌, ◌≤◌, ◌<◌}
use native.Mathlib.Omega.{arith}
use lib.Dec.{eqb}
use borrow.Author.Tests.{le-leb, lt-leb, eq-eqb, ne_eqb, eqb-true, eqb-false}
use Rattle.units.specs.Grounds.{first_fit}
use Rattle.units.proofs.Sums.{le_or_lt, sum_one}
use Rattle.inventory.specs.declared.Run.{Run}
use Rattle.inventory.specs.Records.{record_grounds}
use Rattle.inventory.specs.Limits.{Shaped}
use Rattle.inventory.specs.Order.{in_order, same_head}
use Rattle.inventory.specs.Adding.{with_totals, raised, run_with}
use Rattle.inventory.proofs.Kept.{order_with}
use Rattle.inventory.proofs.Records.{record_limits}
use Rattle.inventory.proofs.Runs.{shaped_with}
use Rattle.accuracy.specs.Reference.{acceptable}
use Rattle.areas.specs.Areas.{Areas, counts_of, beyond_own, common_use, area_ok, areas_in_order, common_after, with_run, areas_with}
use Rattle.areas.proofs.Order.{run_ok, head_ok, common_is, common_most, order_areas}
use Rattle.area_claims.specs.References.{AreaAdd, accepts_in}
use Rattle.area_claims.proofs.OneAdd.{accepts_low, accepts_own, accepts_free, accepts_few}

same_kept : (a b p q : Run) → p.trip ≡ a.trip → p.x ≡ a.x → q.trip ≡ b.trip → q.x ≡ b.x → same_head a b ≡ true → same_head p q ≡ true
unfolding same_head
same_kept a b p q e f g h s = rw (e, f, g, h) s

module _ (a : Areas) (add : AreaAdd) where
  abbrev next : Areas
  next = areas_with a add.area add.rec

  pub here : (i : ℕ) → i ≡ add.area → next.runs i ≡ run_with (a.runs add.area) add.rec
  unfolding areas_with with_run
  here i e = rw (eq-eqb i add.area e)

  pub there : (i : ℕ) → (i ≡ add.area → ⊥) → next.runs i ≡ a.runs i
  unfolding areas_with with_run
  there i e = rw (ne_eqb i add.area e)

  count_here : counts_of next add.area ≡ counts_of a add.area + 1
  unfolding run_with with_totals raised
  count_here = ap (λ r. r.count) (here add.area refl)

  count_there : (j : ℕ) → (j ≡ add.area → ⊥) → counts_of next j ≡ counts_of a j
  count_there j e = ap (λ r. r.count) (there j e)

  pub count_next : (j : ℕ) (b : Bool) → eqb j add.area ≡ b → counts_of next j ≡ cond b (counts_of a j + 1) (counts_of a j)
  count_next j true e = let q : j ≡ add.area = eqb-true j add.area e in rw q count_here
  count_next j false e = count_there j (eqb-false j add.area e)

  shaped_by : ((i : ℕ) → i < 16 → Shaped (a.runs i)) → add.area < 16 → (i : ℕ) (b : Bool) → i < 16 → eqb i add.area ≡ b → Shaped (next.runs i)
  shaped_by s l i true h e = rw (here i (eqb-true i add.area e)) (shaped_with (a.runs add.area) add.rec (s add.area l))
  shaped_by s l i false h e = rw (there i (eqb-false i add.area e)) (s i h)

  pub shaped_next : ((i : ℕ) → i < 16 → Shaped (a.runs i)) → add.area < 16 → (i : ℕ) → i < 16 → Shaped (next.runs i)
  shaped_next s l i h = shaped_by s l i _ h refl

  module _ (o : areas_in_order a ≡ true) (t : accepts_in (counts_of a) add ≡ true) where
    low : add.area < 16
    low = accepts_low (counts_of a) add t

    own : first_fit (record_grounds add.rec) ≡ 0
    unfolding acceptable
    own = eqb-true _ 0 (accepts_own (counts_of a) add t)

    kept_order : in_order (run_with (a.runs add.area) add.rec) ≡ true
    kept_order = order_with (a.runs add.area) add.rec (run_ok a o add.area low) (record_limits _ own) (omega (arith, accepts_few (counts_of a) add t))

    -- L and X of every area are as they were
    head_kept : (i : ℕ) (b : Bool) → eqb i add.area ≡ b → ((next.runs i).trip ≡ (a.runs i).trip) × ((next.runs i).x ≡ (a.runs i).x)
    unfolding run_with with_totals raised
    head_kept i true e = let q : i ≡ add.area = eqb-true i add.area e in rw (here i q, q) (refl, refl)
    head_kept i false e = rw (there i (eqb-false i add.area e)) (refl, refl)

    run_kept : (i : ℕ) (b : Bool) → i < 16 → eqb i add.area ≡ b → in_order (next.runs i) ≡ true
    run_kept i true h e = rw (here i (eqb-true i add.area e)) kept_order
    run_kept i false h e = rw (there i (eqb-false i add.area e)) (run_ok a o i h)

    ok_kept : (i : ℕ) → i < 16 → area_ok next i ≡ true
    ok_kept i h =
        let p = head_kept 0 _ refl in
        let q = head_kept i _ refl in
        rw (run_kept i _ h refl) (same_kept (a.runs 0) (a.runs i) (next.runs 0) (next.runs i) p.0 p.1 q.0 q.1 (head_ok a o i h))

    common_next : next.common ≡ common_after (counts_of a add.area) a.common
    unfolding areas_with with_run
    common_next = refl

    sum_own : counts_of a add.area < 300 → (next.common ≡ common_use (counts_of next)) × (next.common ≤ 200)
    unfolding common_use
    sum_own h =
        let e : next.common ≡ a.common = common_next ∙ rw (lt-leb 300 (counts_of a add.area) h) in
        let s = sum_one (beyond_own (counts_of a)) (beyond_own (counts_of next)) add.area 0 16 (omega (arith, count_here)) (λ j z. ap (λ n. n - 300) (count_there j z)) low in
        (omega (arith, e, common_is a o, s), omega (arith, e, common_most a o))

    sum_common : 300 ≤ counts_of a add.area → (next.common ≡ common_use (counts_of next)) × (next.common ≤ 200)
    unfolding common_use
    sum_common h =
        let e : next.common ≡ a.common + 1 = common_next ∙ rw (le-leb 300 (counts_of a add.area) h) in
        let s = sum_one (beyond_own (counts_of a)) (beyond_own (counts_of next)) add.area 1 16 (omega (arith, count_here)) (λ j z. ap (λ n. n - 300) (count_there j z)) low in
        let f = accepts_free (counts_of a) add t h in
        (omega (arith, e, common_is a o, s), omega (arith, e, common_is a o, f))

    pub order_next : areas_in_order next ≡ true
    order_next =
        ⊎_elim (λ (l : 300 ≤ counts_of a add.area). let p = sum_common l in order_areas next ok_kept p.0 p.1)
        (λ (l : counts_of a add.area < 300). let p = sum_own l in order_areas next ok_kept p.0 p.1) (le_or_lt 300 (counts_of a add.area))
