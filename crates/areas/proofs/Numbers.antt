-- Laws of areas as numbers: what stands where, and that the areas are told back from their numbers.
-- Assumes nothing.
use mathlib.Core.Path.{◌≡◌, refl, ap, ◌∙◌}
use mathlib.Core.Bool.{cond}
use mathlib.Core.Logic.{⊎_elim}
use mathlib.Core.List.{List}
use Prim.Native.Nat.{ℕ, ◌+◌, ◌*◌, ◌-◌, ◌/◌, ◌%◌, ◌≤◌, ◌<◌}
use native.Mathlib.Omega.{arith}
use lib.ListN.{length, get_or}
use lib.Dec.{ltb}
use borrow.Author.Tests.{lt-ltb, le-ltb}
use Rattle.units.proofs.Sums.{le_or_lt}
use Rattle.std.specs.List.{between}
use Rattle.std.proofs.lemmas.List.Edits.{get_or-between}
use Rattle.units.proofs.Tab.{tab_at, tab_length, tab_of, tab_alike}
use Rattle.classes.specs.Classes.{x_count}
use Rattle.inventory.specs.declared.Run.{Run}
use Rattle.inventory.specs.Limits.{Shaped}
use Rattle.inventory.specs.Order.{grams_in, rest_in, km_in, total_grams_in, total_rest_in}
use Rattle.inventory.proofs.Runs.{by_parts, as_km, as_grams}
use Rattle.areas.specs.Areas.{Areas}
use Rattle.areas.specs.Numbers.{number_at, km_at, grams_at, run_size, areas_size, run_at, run_number, areas_of, areas_number, numbers_of}

-- ---- the run at a place

module _ (numbers : List ℕ) (at : ℕ) where
  pub trip_read : (run_at numbers at).trip ≡ get_or numbers at 0
  unfolding run_at
  trip_read = refl

  pub count_read : (run_at numbers at).count ≡ get_or numbers (at + 17) 0
  unfolding run_at
  count_read = refl

  pub x_read : (i : ℕ) → i < x_count → get_or (run_at numbers at).x i 0 ≡ get_or numbers (at + 1 + i) 0
  unfolding run_at
  x_read i h = tab_at 0 (number_at numbers (at + 1)) x_count i h

  pub km_read : (i : ℕ) → i < 3 → km_in (run_at numbers at) i ≡ get_or numbers (at + 18 + i) 0
  unfolding run_at
  km_read i h = ap (λ k. k.0) (tab_at (record { 0 = 0 }) (km_at numbers (at + 18)) 3 i h)

  pub grams_read : (j : ℕ) → j < 60 → grams_in (run_at numbers at) j ≡ get_or numbers (at + 21 + j) 0
  unfolding run_at
  grams_read j h = ap (λ k. k.0) (tab_at (record { 0 = 0 }) (grams_at numbers (at + 21)) 60 j h)

  pub rest_read : (j : ℕ) → j < 60 → rest_in (run_at numbers at) j ≡ get_or numbers (at + 81 + j) 0
  unfolding run_at
  rest_read j h = tab_at 0 (number_at numbers (at + 81)) 60 j h

  pub total-grams_read : (j : ℕ) → j < 15 → total_grams_in (run_at numbers at) j ≡ get_or numbers (at + 141 + j) 0
  unfolding run_at
  total-grams_read j h = ap (λ k. k.0) (tab_at (record { 0 = 0 }) (grams_at numbers (at + 141)) 15 j h)

  pub total_rest_read : (j : ℕ) → j < 15 → total_rest_in (run_at numbers at) j ≡ get_or numbers (at + 156 + j) 0
  unfolding run_at
  total_rest_read j h = tab_at 0 (number_at numbers (at + 156)) 15 j h

-- ---- the numbers of a run

module _ (run : Run) where
  pub number_trip : (k : ℕ) → k ≡ 0 → run_number run k ≡ run.trip
  unfolding run_number
  number_trip k e = rw e

  pub number_x : (k i : ℕ) → k ≡ i + 1 → i < x_count → run_number run k ≡ get_or run.x i 0
  unfolding run_number
  number_x k i e h = let z : k - 1 ≡ i = omega arith in rw (le-ltb k 1 (omega arith), lt-ltb k 17 (omega arith), z)

  pub number_count : (k : ℕ) → k ≡ 17 → run_number run k ≡ run.count
  unfolding run_number
  number_count k e = rw e

  pub number_km : (k i : ℕ) → k ≡ i + 18 → i < 3 → run_number run k ≡ km_in run i
  unfolding run_number
  number_km k i e h =
      let z : k - 18 ≡ i = omega arith in
      rw (le-ltb k 1 (omega arith), le-ltb k 17 (omega arith), le-ltb k 18 (omega arith), lt-ltb k 21 (omega arith), z)

  -- the numbers behind the kilometres
  abbrev amount_number : ℕ → ℕ
  amount_number k =
      cond (ltb k 81) (grams_in run (k - 21)) (cond (ltb k 141) (rest_in run (k - 81)) (cond (ltb k 156) (total_grams_in run (k - 141)) (total_rest_in run (k - 156))))

  behind_km : (k : ℕ) → 21 ≤ k → run_number run k ≡ amount_number k
  unfolding run_number
  behind_km k h = rw (le-ltb k 1 (omega arith), le-ltb k 17 (omega arith), le-ltb k 18 (omega arith), le-ltb k 21 h)

  pub number_grams : (k j : ℕ) → k ≡ j + 21 → j < 60 → run_number run k ≡ grams_in run j
  number_grams k j e h = let z : k - 21 ≡ j = omega arith in behind_km k (omega arith) ∙ rw (lt-ltb k 81 (omega arith), z)

  pub number_rest : (k j : ℕ) → k ≡ j + 81 → j < 60 → run_number run k ≡ rest_in run j
  number_rest k j e h =
      let z : k - 81 ≡ j = omega arith in behind_km k (omega arith) ∙ rw (le-ltb k 81 (omega arith), lt-ltb k 141 (omega arith), z)

  pub number_total-grams : (k j : ℕ) → k ≡ j + 141 → j < 15 → run_number run k ≡ total_grams_in run j
  number_total-grams k j e h =
      let z : k - 141 ≡ j = omega arith in
      behind_km k (omega arith) ∙ rw (le-ltb k 81 (omega arith), le-ltb k 141 (omega arith), lt-ltb k 156 (omega arith), z)

  pub number_total_rest : (k j : ℕ) → k ≡ j + 156 → run_number run k ≡ total_rest_in run j
  number_total_rest k j e =
      let z : k - 156 ≡ j = omega arith in
      behind_km k (omega arith) ∙ rw (le-ltb k 81 (omega arith), le-ltb k 141 (omega arith), le-ltb k 156 (omega arith), z)

-- the number k of the run at a place is the number k places behind it
module _ (numbers : List ℕ) (at k : ℕ) (h : k < run_size) where
  abbrev Read : Type 0
  Read = run_number (run_at numbers at) k ≡ get_or numbers (at + k) 0

  -- where its part begins at the number lo
  behind : (lo : ℕ) → lo ≤ k → run_number (run_at numbers at) k ≡ get_or numbers (at + lo + (k - lo)) 0 → Read
  behind lo l e = let z : at + k ≡ at + lo + (k - lo) = omega arith in rw z e

  read_trip : k < 1 → Read
  read_trip m = let z : at + k ≡ at = omega arith in rw z (number_trip _ k (omega arith) ∙ trip_read numbers at)

  read_x : 1 ≤ k → k < 17 → Read
  read_x l m = behind 1 l (number_x _ k (k - 1) (omega arith) (omega arith) ∙ x_read numbers at (k - 1) (omega arith))

  read_count : 17 ≤ k → k < 18 → Read
  read_count l m = let z : at + k ≡ at + 17 = omega arith in rw z (number_count _ k (omega arith) ∙ count_read numbers at)

  read_km : 18 ≤ k → k < 21 → Read
  read_km l m = behind 18 l (number_km _ k (k - 18) (omega arith) (omega arith) ∙ km_read numbers at (k - 18) (omega arith))

  read_grams : 21 ≤ k → k < 81 → Read
  read_grams l m = behind 21 l (number_grams _ k (k - 21) (omega arith) (omega arith) ∙ grams_read numbers at (k - 21) (omega arith))

  read_rest : 81 ≤ k → k < 141 → Read
  read_rest l m = behind 81 l (number_rest _ k (k - 81) (omega arith) (omega arith) ∙ rest_read numbers at (k - 81) (omega arith))

  read_total-grams : 141 ≤ k → k < 156 → Read
  read_total-grams l m =
      behind 141 l (number_total-grams _ k (k - 141) (omega arith) (omega arith) ∙ total-grams_read numbers at (k - 141) (omega arith))

  read_total_rest : 156 ≤ k → Read
  read_total_rest l = behind 156 l (number_total_rest _ k (k - 156) (omega arith) ∙ total_rest_read numbers at (k - 156) (omega arith))

  either : (b : ℕ) → (k < b → Read) → (b ≤ k → Read) → Read
  either b p q = ⊎_elim q p (le_or_lt b k)

  pub number_read : Read
  number_read =
      either 1 read_trip
      (λ a. either 17 (read_x a)
      (λ b. either 18 (read_count b)
      (λ d. either 21 (read_km d)
      (λ e. either 81 (read_grams e) (λ f. either 141 (read_rest f) (λ g. either 156 (read_total-grams g) read_total_rest))))))

-- the run of a part of the numbers is the run at its place
pub run_between : (numbers : List ℕ) (at to : ℕ) → to ≡ at + 171 → run_at (between at to numbers) 0 ≡ run_at numbers at
unfolding run_at
run_between numbers at to e =
    let part : (k : ℕ) → k < 171 → get_or (between at to numbers) k 0 ≡ get_or numbers (at + k) 0 = λ k h. get_or-between numbers at to k 0 (omega arith) in
    let step : (lo k : ℕ) → lo + k < 171 → get_or (between at to numbers) (lo + k) 0 ≡ get_or numbers (at + lo + k) 0 =
    λ lo k h. let z : at + (lo + k) ≡ at + lo + k = omega arith in part (lo + k) h ∙ ap (λ j. get_or numbers j 0) z in
    let p = between at to numbers in
    let first : get_or p 0 0 ≡ get_or numbers at 0 = let z : at + 0 ≡ at = omega arith in part 0 (omega arith) ∙ ap (λ j. get_or numbers j 0) z in
    rw (
      first,
      tab_alike (number_at p 1) (number_at numbers (at + 1)) x_count (λ k h. step 1 k (omega arith)),
      part 17 (omega arith),
      tab_alike (km_at p 18) (km_at numbers (at + 18)) 3 (λ k h. as_km (step 18 k (omega arith))),
      tab_alike (grams_at p 21) (grams_at numbers (at + 21)) 60 (λ k h. as_grams (step 21 k (omega arith))),
      tab_alike (number_at p 81) (number_at numbers (at + 81)) 60 (λ k h. step 81 k (omega arith)),
      tab_alike (grams_at p 141) (grams_at numbers (at + 141)) 15 (λ k h. as_grams (step 141 k (omega arith))),
      tab_alike (number_at p 156) (number_at numbers (at + 156)) 15 (λ k h. step 156 k (omega arith)),
    )

-- ---- areas told back from their numbers

pub shaped_at : (numbers : List ℕ) (at : ℕ) → Shaped (run_at numbers at)
unfolding run_at
shaped_at numbers at =
    record { xs = tab_length _ x_count; kms = tab_length _ 3; grams = tab_length _ 60; rests = tab_length _ 60; total_grams = tab_length _ 15; total_rests = tab_length _ 15 }

module _ (a : Areas) where
  pub size_of : length (numbers_of a) ≡ areas_size
  unfolding numbers_of
  size_of = tab_length (areas_number a) areas_size

  entry_of : (j : ℕ) → j < areas_size → get_or (numbers_of a) j 0 ≡ areas_number a j
  unfolding numbers_of
  entry_of j h = tab_at 0 (areas_number a) areas_size j h

  -- the number k of the run of an area
  entry_in : (i k j : ℕ) → i < 16 → k < run_size → j ≡ i * run_size + k → get_or (numbers_of a) j 0 ≡ run_number (a.runs i) k
  unfolding areas_number
  entry_in i k j h l e =
      let q : j / 171 ≡ i = omega arith in let r : j % 171 ≡ k = omega arith in
      entry_of j (omega arith) ∙ rw (lt-ltb j 2736 (omega arith), q, r)

  module _ (i : ℕ) (h : i < 16) (s : Shaped (a.runs i)) where
    pub run_back : (areas_of (numbers_of a)).runs i ≡ a.runs i
    unfolding areas_of run_at
    run_back =
        let run = a.runs i in
        by_parts (run_at (numbers_of a) (i * 171)) run (entry_in i 0 (i * 171) h (omega arith) (omega arith) ∙ number_trip run 0 refl)
        (tab_of 0 (number_at (numbers_of a) (i * 171 + 1)) run.x x_count s.xs
        (λ k l. entry_in i (k + 1) (i * 171 + 1 + k) h (omega arith) (omega arith) ∙ number_x run (k + 1) k refl l))
        (entry_in i 17 (i * 171 + 17) h (omega arith) refl ∙ number_count run 17 refl)
        (tab_of (record { 0 = 0 }) (km_at (numbers_of a) (i * 171 + 18)) run.km 3 s.kms
        (λ k l. as_km (entry_in i (k + 18) (i * 171 + 18 + k) h (omega arith) (omega arith) ∙ number_km run (k + 18) k refl l)))
        (tab_of (record { 0 = 0 }) (grams_at (numbers_of a) (i * 171 + 21)) run.grams 60 s.grams
        (λ k l. as_grams (entry_in i (k + 21) (i * 171 + 21 + k) h (omega arith) (omega arith) ∙ number_grams run (k + 21) k refl l)))
        (tab_of 0 (number_at (numbers_of a) (i * 171 + 81)) run.rests 60 s.rests
        (λ k l. entry_in i (k + 81) (i * 171 + 81 + k) h (omega arith) (omega arith) ∙ number_rest run (k + 81) k refl l))
        (tab_of (record { 0 = 0 }) (grams_at (numbers_of a) (i * 171 + 141)) run.total_grams 15 s.total_grams
        (λ k l. as_grams (entry_in i (k + 141) (i * 171 + 141 + k) h (omega arith) (omega arith) ∙ number_total-grams run (k + 141) k refl l)))
        (tab_of 0 (number_at (numbers_of a) (i * 171 + 156)) run.total_rests 15 s.total_rests
        (λ k l. entry_in i (k + 156) (i * 171 + 156 + k) h (omega arith) (omega arith) ∙ number_total_rest run (k + 156) k refl))

  pub common_back : (areas_of (numbers_of a)).common ≡ a.common
  unfolding areas_of areas_number
  common_back = entry_of 2736 (omega arith)
