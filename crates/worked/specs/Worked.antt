-- Worked lists of records (SPECIFICATION, "Accuracy"): the reference and the run after them are not empty.
-- Assumes nothing.
use Rattle.std.specs.Prelude.{ℕ, zero, suc, ◌+◌, ◌*◌, ◌/◌, ◌%◌, ◌≡◌, List, [], ◌∷◌}
use Rattle.units.specs.Lists.{tab}
use Rattle.units.specs.Fractions.{over}
use Rattle.inventory.specs.declared.Head.{Head}
use Rattle.inventory.specs.declared.Record.{Record}
use Rattle.inventory.specs.Opening.{open_run}
use Rattle.inventory.specs.Adding.{add_number}
use Rattle.inventory.specs.Printed.{total_of, printed_total}
use Rattle.accuracy.specs.Reference.{reference_of, exact_denominator}
use Rattle.accuracy.specs.Claim.{run_after}
use Rattle.accuracy.specs.Numbers.{example_head, dated_head, example_of}

-- the totals that the run after a list under a head prints (fuel × 5 + quantity), and the reference's count, kilometres and
-- exact sums, each as its numerator over a weight × 10^21
pub record ListGives (head : Head) (weight : ℕ) (recs : List Record) (printed : List ℕ) (count : ℕ) (km exact : List ℕ) : Type 0 where
  pub totals : tab (λ i. (total_of (run_after (open_run head) recs) (i / 5 + 1) (i % 5 + 1)).grams) 15 ≡ printed
  pub counted : (reference_of head recs).count ≡ count
  pub distance : tab (reference_of head recs).km 3 ≡ km
  pub numerators : tab (λ i. ((reference_of head recs).exact (i / 5) (i % 5)).numerator) 15 ≡ exact
  pub denominators : tab (λ i. ((reference_of head recs).exact (i / 5) (i % 5)).denominator) 15 ≡ tab (λ i. weight * 1000000000000000000000) 15

-- the same record so many times
abbrev pub many : ℕ → List Record
many zero = []
many (suc n) = example_of 2 ∷ many n

pub record WorkedClaim : Type 0 where
  -- the record, a refused one (class 0), the record again
  pub refused_between : ListGives example_head 12 (example_of 2 ∷ example_of 0 ∷ example_of 2 ∷ [])
      (54264364 ∷ 8390774 ∷ 3839552 ∷ 0 ∷ 1924471720 ∷ 0 ∷ 0 ∷ 0 ∷ 0 ∷ 0 ∷ 0 ∷ 0 ∷ 0 ∷ 0 ∷ 0 ∷ [])
      2 (20000000 ∷ 0 ∷ 0 ∷ [])
      (651172363200000000000000000000 ∷ 100689295104000000000000000000 ∷ 46074627840000000000000000000 ∷ 0 ∷ 23093660641920000000000000000000
      ∷ 0 ∷ 0 ∷ 0 ∷ 0 ∷ 0 ∷ 0 ∷ 0 ∷ 0 ∷ 0 ∷ 0 ∷ [])
  -- all three fuels: gasoline, diesel, LPG
  pub three_fuels : ListGives example_head 12 (example_of 2 ∷ example_of 6 ∷ example_of 4 ∷ [])
      (27132182 ∷ 4195387 ∷ 1919776 ∷ 0 ∷ 962235860
      ∷ 14646798 ∷ 12300967 ∷ 3953779 ∷ 3945775 ∷ 939892252
      ∷ 33195064 ∷ 3442000 ∷ 3252986 ∷ 0 ∷ 590773980 ∷ [])
      3 (10000000 ∷ 10000000 ∷ 10000000 ∷ [])
      (325586181600000000000000000000 ∷ 50344647552000000000000000000 ∷ 23037313920000000000000000000 ∷ 0 ∷ 11546830320960000000000000000000
      ∷ 175761579360000000000000000000 ∷ 147611603304000000000000000000 ∷ 47445346560000000000000000000 ∷ 47349294576000000000000000000 ∷ 11278707022080000000000000000000
      ∷ 398340772608000000000000000000 ∷ 41304000000000000000000000000 ∷ 39035837184000000000000000000 ∷ 0 ∷ 7089287762400000000000000000000 ∷ [])
  -- class 3 by itself, its CO by its own X
  pub class_3 : ListGives example_head 12 (example_of 3 ∷ [])
      (17417240 ∷ 1845970 ∷ 844702 ∷ 0 ∷ 962235860 ∷ 0 ∷ 0 ∷ 0 ∷ 0 ∷ 0 ∷ 0 ∷ 0 ∷ 0 ∷ 0 ∷ 0 ∷ [])
      1 (10000000 ∷ 0 ∷ 0 ∷ [])
      (209006875526400000000000000000 ∷ 22151644922880000000000000000 ∷ 10136418124800000000000000000 ∷ 0 ∷ 11546830320960000000000000000000
      ∷ 0 ∷ 0 ∷ 0 ∷ 0 ∷ 0 ∷ 0 ∷ 0 ∷ 0 ∷ 0 ∷ 0 ∷ [])
  -- classes 2 and 3 together: each by its own X for CO
  pub classes_2_and_3 : ListGives example_head 12 (example_of 2 ∷ example_of 3 ∷ [])
      (44549422 ∷ 6041357 ∷ 2764478 ∷ 0 ∷ 1924471720 ∷ 0 ∷ 0 ∷ 0 ∷ 0 ∷ 0 ∷ 0 ∷ 0 ∷ 0 ∷ 0 ∷ 0 ∷ [])
      2 (20000000 ∷ 0 ∷ 0 ∷ [])
      (534593057126400000000000000000 ∷ 72496292474880000000000000000 ∷ 33173732044800000000000000000 ∷ 0 ∷ 23093660641920000000000000000000
      ∷ 0 ∷ 0 ∷ 0 ∷ 0 ∷ 0 ∷ 0 ∷ 0 ∷ 0 ∷ 0 ∷ 0 ∷ [])
  -- the same two under a cold February, by the dates of a full year and on its 29th day alone: the weights are days
  pub full_year : ListGives (dated_head 20260101 20261231) 365 (example_of 2 ∷ example_of 3 ∷ [])
      (46118734 ∷ 6066178 ∷ 2853796 ∷ 0 ∷ 1943186578 ∷ 0 ∷ 0 ∷ 0 ∷ 0 ∷ 0 ∷ 0 ∷ 0 ∷ 0 ∷ 0 ∷ 0 ∷ [])
      2 (20000000 ∷ 0 ∷ 0 ∷ [])
      (16833337932019200000000000000000 ∷ 2214154969390080000000000000000 ∷ 1041635856614400000000000000000 ∷ 0 ∷ 709263101300960000000000000000000
      ∷ 0 ∷ 0 ∷ 0 ∷ 0 ∷ 0 ∷ 0 ∷ 0 ∷ 0 ∷ 0 ∷ 0 ∷ [])
  pub one_day : ListGives (dated_head 20000229 20000229) 1 (example_of 2 ∷ example_of 3 ∷ [])
      (65006532 ∷ 6364908 ∷ 3928817 ∷ 0 ∷ 2168433272 ∷ 0 ∷ 0 ∷ 0 ∷ 0 ∷ 0 ∷ 0 ∷ 0 ∷ 0 ∷ 0 ∷ 0 ∷ [])
      2 (20000000 ∷ 0 ∷ 0 ∷ [])
      (65006532537600000000000000000 ∷ 6364907942400000000000000000 ∷ 3928817203200000000000000000 ∷ 0 ∷ 2168433271680000000000000000000
      ∷ 0 ∷ 0 ∷ 0 ∷ 0 ∷ 0 ∷ 0 ∷ 0 ∷ 0 ∷ 0 ∷ 0 ∷ [])
  -- record 5,000 is taken, record 5,001 is not
  pub last_taken : add_number (run_after (open_run example_head) (many 4999)) (example_of 2) ≡ 0
  pub next_refused : add_number (run_after (open_run example_head) (many 5000)) (example_of 2) ≡ 9
  -- of 5,001 the reference accepts 5,000
  pub full_count : (reference_of example_head (many 5001)).count ≡ 5000
  -- a full run: kilometres, exact and printed CO of gasoline
  pub full_km : (reference_of example_head (many 5000)).km 0 ≡ 50000000000
  pub full_exact : (reference_of example_head (many 5000)).exact 0 0 ≡ over 1627930908000000000000000000000000 (exact_denominator example_head)
  pub full_total : printed_total (run_after (open_run example_head) (many 5000)) 0 0 ≡ 135660910000
