-- The head: a loop that fills an array with twelve numbers, and what stands before them. Assumes nothing.
use Prim.Native.Nat.{ℕ, suc, ◌+◌, ◌-◌, ◌*◌, ◌≤◌, ◌<◌}
use mathlib.Core.Path.{◌≡◌, refl, sym, ap, ◌∙◌}
use mathlib.Core.Bool.{false}
use mathlib.Core.List.{List, ◌++◌, append-nil}
use native.Mathlib.Numerals.{add-one}
use native.Mathlib.Omega.{arith}
use lib.IntN.{ℤ}
use lib.ListN.{length, take, drop, set, replicate}
use lib.Seq.{take-suc-set, append_snoc, take_all}
use Rattle.std.specs.Prelude.{Option, Some, None, option_and_then}
use Rattle.calendar.specs.declared.Period.{Period}
use Rattle.fields.specs.Field.{parse, count_in}
use Rattle.inventory.specs.declared.Head.{Head}
use Rattle.lines.specs.Lines.{head_widths, fields, before, numbers_in}
use Rattle.lines.specs.Records.{head_over}
use Rattle.lines.proofs.Counts.{fields_from, fields_from_lem, number_plus, no_number}

-- what the first j elements of t and then r are
abbrev pub place : List ℤ → ℕ → Option (List ℤ) → Option (List ℤ)
place t j None = None
place t j (Some vs) = Some (take j t ++ vs)

place_zero : (t : List ℤ) (r : Option (List ℤ)) → place t 0 r ≡ r
place_zero t None = refl
place_zero t (Some vs) = refl

place_more : (t : List ℤ) (j : ℕ) (v : ℤ) (r : Option (List ℤ)) → j < length t → place t j (before (Some v) r) ≡ place (set t j v) (j + 1) r
place_more t j v None h = refl
place_more t j v (Some vs) h = ap Some (rw (add-one, take-suc-set t j v h) (sym (append_snoc (take j t) v vs)))

-- the numbers of width 5 from the j-th of twelve on
abbrev pub fives : List ℕ → ℕ → Option (List ℤ)
fives s j = numbers_in (fields_from (replicate (12 - j) 5) s (5 * j + 5))

unroll : (s : List ℕ) (j : ℕ) → j < 12 → fives s j ≡ before (parse (take 5 (drop (5 * j + 5) s))) (fives s (j + 1))
unfolding numbers_in fields_from
unroll s j h = let e : 12 - j ≡ suc (12 - (j + 1)) = omega arith in let a : 5 * j + 5 + 5 ≡ 5 * (j + 1) + 5 = omega arith in rw (e, a)

module _ (s : List ℕ) (t : List ℤ) where
  pub begin : place t 0 (fives s 0) ≡ numbers_in (fields (replicate 12 5) (drop 5 s))
  begin = place_zero t (fives s 0) ∙ ap numbers_in (sym (fields_from_lem (replicate 12 5) s 5))

  module _ (j : ℕ) (h : j < 12) where
    pub missing : parse (take 5 (drop (5 * j + 5) s)) ≡ None → place t j (fives s j) ≡ None
    missing e = rw (unroll s j h, e)

    pub filled : (v : ℤ) → j < length t → parse (take 5 (drop (5 * j + 5) s)) ≡ Some v → place t j (fives s j) ≡ place (set t j v) (j + 1) (fives s (j + 1))
    filled v k e = rw (unroll s j h, e) (place_more t j v (fives s (j + 1)) k)

  pub full : length t ≤ 12 → place t 12 (fives s 12) ≡ Some t
  unfolding numbers_in fields_from
  full k = ap Some (rw append-nil (take_all 12 t k))

-- ---- L before them

no_trip : (p : Period) (a : Option ℤ) (r : Option (List ℤ)) → ((z : ℤ) → a ≡ Some z → Rattle.fields.specs.Field.count_of z ≡ None) → None ≡ option_and_then (head_over p) (before a r)
no_trip p None r h = refl
no_trip p (Some z) None h = refl
no_trip p (Some z) (Some ts) h = let e = h z refl in rw e

no_temps : (p : Period) (a : Option ℤ) → None ≡ option_and_then {U = Head} (head_over p) (before a None)
no_temps p None = refl
no_temps p (Some z) = refl

module _ (s : List ℕ) where
  parts : numbers_in (fields (head_widths false) s) ≡ before (parse (take 5 s)) (numbers_in (fields (replicate 12 5) (drop 5 s)))
  unfolding numbers_in head_widths fields
  parts = refl

  module _ (p : Period) where
    pub trip_missing : count_in (take 5 s) ≡ None → None ≡ option_and_then (head_over p) (numbers_in (fields (head_widths false) s))
    trip_missing h = rw parts (no_trip p (parse (take 5 s)) (numbers_in (fields (replicate 12 5) (drop 5 s))) (no_number (take 5 s) h))

    pub temps_missing : numbers_in (fields (replicate 12 5) (drop 5 s)) ≡ None → None ≡ option_and_then (head_over p) (numbers_in (fields (head_widths false) s))
    temps_missing e = rw (parts, e) (no_temps p (parse (take 5 s)))

    pub head_there : (trip : ℕ) (temps : List ℤ) → count_in (take 5 s) ≡ Some trip → numbers_in (fields (replicate 12 5) (drop 5 s)) ≡ Some temps
        → Some (record { trip = trip; temps = temps; period = p }) ≡ option_and_then (head_over p) (numbers_in (fields (head_widths false) s))
    head_there trip temps h e = rw (parts, number_plus (take 5 s) trip h, e)
