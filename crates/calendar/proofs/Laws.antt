-- The weights of a period: their sum, a full year, a day alone. Assumes nothing.
use mathlib.Core.Path.{◌≡◌, refl, sym, ap, ◌∙◌}
use mathlib.Core.Bool.{Bool, true, false, not, cond}
use mathlib.Core.Logic.{⊎_elim}
use Prim.Native.Nat.{ℕ, zero, suc, ◌+◌, ◌*◌, ◌-◌, ◌≤◌, ◌<◌, min}
use native.Mathlib.Omega.{arith}
use lib.Dec.{eqb, ltb}
use borrow.Author.Tests.{eqb-true, eq-eqb, ne_eqb, ltb-false, le-ltb, not-false}
use Rattle.units.specs.Lists.{sum_to}
use Rattle.units.specs.Grounds.{first_fit}
use Rattle.units.proofs.Grounds.{passed}
use Rattle.units.proofs.Sums.{le_or_lt, sum_alike, fewer_terms}
use Rattle.units.proofs.Tests.{or_false_left, or_false_right}
use Rattle.calendar.specs.declared.Days.{Days}
use Rattle.calendar.specs.Calendar.{is_leap, month_length, written, year_of, month_of, day_of, no_day, day_number}
use Rattle.calendar.specs.Periods.{period_grounds, TakenDays, days_in, days_of}
use Rattle.calendar.specs.Claim.{full_year, one_day}
use Rattle.calendar.proofs.Months.{length_range, december, year_length, Date, is_date, date_is}
use Rattle.calendar.proofs.Counts.{before_month, length_in, days_in_lem}

-- ---- what a taken period has

pub record DaysFacts (d : Days) : Type 0 where
  pub first : Date d.first
  pub last : Date d.last
  pub in_turn : d.first ≤ d.last
  pub same_year : year_of d.first ≡ year_of d.last

pub days_facts : (d : Days) → TakenDays d → DaysFacts d
unfolding period_grounds
days_facts d z =
    let p = passed (period_grounds (Rattle.calendar.specs.declared.Period.TheVariants.Days d)) tt z in
    let before : Bool = ltb d.last d.first in
    let other : Bool = not (eqb (year_of d.first) (year_of d.last)) in
    record {
      first = is_date d.first (or_false_left (no_day d.first) (no_day d.last) p.0);
      last = is_date d.last (or_false_right (no_day d.first) (no_day d.last) p.0);
      in_turn = ltb-false d.last d.first (or_false_left before other p.1.0);
      same_year = eqb-true _ _ (not-false (eqb (year_of d.first) (year_of d.last)) (or_false_right before other p.1.0));
    }

pub facts_taken : (d : Days) → DaysFacts d → TakenDays d
unfolding period_grounds first_fit
facts_taken d p =
    rw (
      date_is d.first p.first,
      date_is d.last p.last,
      le-ltb d.last d.first p.in_turn,
      eq-eqb (year_of d.first) (year_of d.last) p.same_year,
    )

-- ---- the sum over the first months of the year y, whose months have the lengths len: from day da of month a to day db of month b

module _ (len : ℕ → ℕ) (range : (k : ℕ) → k < 12 → (28 ≤ len k) × (len k ≤ 31)) (y a da b db : ℕ)
    (da-low : 1 ≤ da) (da-high : da ≤ len a) (db-low : 1 ≤ db) (db-high : db ≤ len b) (b-high : b < 12) (in_turn : a * 100 + da ≤ b * 100 + db) (small : db ≤ 31) (small-a : da ≤ 31) where
  first : ℕ
  first = y * 10000 + (a + 1) * 100 + da

  last : ℕ
  last = y * 10000 + (b + 1) * 100 + db

  weight : ℕ → ℕ
  weight k = min (len k) (last - (y * 10000 + (k + 1) * 100)) - (first - (y * 10000 + (k + 1) * 100 + 1))

  early : (k : ℕ) → k < 12 → k < a → weight k ≡ 0
  unfolding weight first last
  early k o h =
      let r = range k o in
      (omega (arith, r.1))

  opening : (k : ℕ) → k < 12 → k ≡ a → k < b → weight k + da ≡ len k + 1
  unfolding weight first last
  opening k o e h =
      let r = range k o in
      let q : da ≤ len k = rw e da-high in
      (omega arith)

  alone : (k : ℕ) → k ≡ a → k ≡ b → weight k + da ≡ db + 1
  unfolding weight first last
  alone k e f =
      let q : db ≤ len k = rw f db-high in
      (omega arith)

  whole : (k : ℕ) → k < 12 → a < k → k < b → weight k ≡ len k
  unfolding weight first last
  whole k o h j =
      let r = range k o in
      (omega arith)

  closing : (k : ℕ) → a < k → k ≡ b → weight k ≡ db
  unfolding weight first last
  closing k h f =
      let q : db ≤ len k = rw f db-high in
      (omega arith)

  late : (k : ℕ) → b < k → weight k ≡ 0
  unfolding weight first last
  late k h = (omega arith)

  -- the first k months
  record Upto (k : ℕ) : Type 0 where
    none : k ≤ a → sum_to weight k ≡ 0
    some : a < k → k ≤ b → sum_to weight k + (sum_to len a + da) ≡ sum_to len k + 1
    all : b < k → sum_to weight k + (sum_to len a + da) ≡ sum_to len b + db + 1

  upto : (k : ℕ) → k ≤ 12 → Upto k
  unfolding sum_to
  upto zero o = record { none = λ h. refl; some = λ h j. absurd (omega arith); all = λ h. absurd (omega arith) }
  upto (suc k) o =
      let p = upto k (omega arith) in
      let s : k < 12 = omega arith in
      record {
        none = λ h. omega (arith, p.none (omega arith), early k s (omega arith));
        some =
            λ h j.
            ⊎_elim (λ (q : k ≤ a). (let e : k ≡ a = omega arith in omega (arith, p.none q, opening k s e (omega arith), ap (sum_to len) e)))
            (λ (q : a < k). omega (arith, p.some q (omega arith), whole k s q (omega arith))) (le_or_lt k a);
        all =
            λ h.
            ⊎_elim
            (λ (q : k ≤ b).
            (let e : k ≡ b = omega arith in
            ⊎_elim (λ (u : k ≤ a). (let f : k ≡ a = omega arith in omega (arith, p.none u, alone k f e, ap (sum_to len) e, ap (sum_to len) f)))
            (λ (u : a < k). omega (arith, p.some u q, closing k u e, ap (sum_to len) e)) (le_or_lt k a)))
            (λ (q : b < k). omega (arith, p.all q, late k q)) (le_or_lt k b);
      }

  total : sum_to weight 12 + (sum_to len a + da) ≡ sum_to len b + db + 1
  total = (upto 12 (omega arith)).all b-high

-- ---- a taken period

module _ (d : Days) (p : DaysFacts d) where
  date_first : written (year_of d.first) (month_of d.first - 1 + 1) (day_of d.first) ≡ d.first
  date_first = omega (arith, p.first.month_low)

  date_last : written (year_of d.first) (month_of d.last - 1 + 1) (day_of d.last) ≡ d.last
  date_last = omega (arith, p.last.month_low, p.same_year)

  range : (k : ℕ) → k < 12 → (28 ≤ length_in d k) × (length_in d k ≤ 31)
  range k h = length_range (year_of d.first) k h

  last_length : day_of d.last ≤ length_in d (month_of d.last - 1)
  last_length =
      let e : month_of d.last - 1 + 1 ≡ month_of d.last = omega (arith, p.last.month_low) in
      rw (p.same_year, e) p.last.day_high

  first_length : day_of d.first ≤ length_in d (month_of d.first - 1)
  first_length = let e : month_of d.first - 1 + 1 ≡ month_of d.first = omega (arith, p.first.month_low) in rw e p.first.day_high

  last_number_lem : day_number d.last ≡ sum_to (length_in d) (month_of d.last - 1) + day_of d.last
  unfolding day_number
  last_number_lem = rw (← p.same_year)

  sum_of_days_lem : sum_to (days_in d) 12 + day_number d.first ≡ day_number d.last + 1
  unfolding day_number weight first last
  sum_of_days_lem =
      let a : ℕ = month_of d.first - 1 in
      let b : ℕ = month_of d.last - 1 in
      let ra = range a (omega (arith, p.first.month_low, p.first.month_high)) in
      let rb = range b (omega (arith, p.last.month_low, p.last.month_high)) in
      let t = total (length_in d) range (year_of d.first) a (day_of d.first) b (day_of d.last) p.first.day_low first_length p.last.day_low last_length
      (omega (arith, p.last.month_high)) (omega (arith, p.in_turn, date_first, date_last)) (omega (arith, last_length, rb.1)) (omega (arith, first_length, ra.1)) in
      let e : sum_to (days_in d) 12 ≡ sum_to (weight (length_in d) range (year_of d.first) a (day_of d.first) b (day_of d.last) p.first.day_low first_length p.last.day_low last_length
      (omega (arith, p.last.month_high)) (omega (arith, p.in_turn, date_first, date_last)) (omega (arith, last_length, rb.1)) (omega (arith, first_length, ra.1))) 12 =
      sum_alike _ _ 12 (λ k h. days_in_lem d k ∙ rw (date_first, date_last)) in
      omega (arith, t, e, last_number_lem)

  in_order : day_number d.first ≤ day_number d.last
  unfolding day_number sum_to
  in_order =
      let a : ℕ = month_of d.first - 1 in
      let b : ℕ = month_of d.last - 1 in
      ⊎_elim
      (λ (o : b ≤ a). (let e : a ≡ b = omega (arith, p.in_turn, date_first, date_last, p.first.month_low, p.last.month_low) in
      omega (arith, last_number_lem, ap (sum_to (length_in d)) e, p.in_turn, date_first, date_last)))
      (λ (o : a < b). (let s : sum_to (length_in d) (suc a) ≤ sum_to (length_in d) b = fewer_terms (length_in d) (suc a) b (omega arith) in
      omega (arith, last_number_lem, first_length, s))) (le_or_lt b a)

-- a day's number in its year is 1 to 366
number_low : (date : ℕ) → Date date → 1 ≤ day_number date
unfolding day_number
number_low date p = omega (arith, p.day_low)

year_most : (leap : Bool) → cond leap 366 365 ≤ 366
year_most true = omega arith
year_most false = omega arith

number_most : (date : ℕ) → Date date → day_number date ≤ 366
unfolding day_number sum_to
number_most date p =
    let lengths : ℕ → ℕ = λ k. month_length (year_of date) (k + 1) in
    let m : ℕ = month_of date - 1 in
    let e : m + 1 ≡ month_of date = omega (arith, p.month_low) in
    let d : day_of date ≤ lengths m = rw e p.day_high in
    let s : sum_to lengths (suc m) ≤ sum_to lengths 12 = fewer_terms lengths (suc m) 12 (omega (arith, p.month_high)) in
    omega (arith, d, s, year_length (year_of date), year_most (is_leap (year_of date)))

module _ (d : Days) (taken : TakenDays d) where
  pub ends : day_number d.first ≤ day_number d.last
  ends = in_order d (days_facts d taken)

  pub weights_sum : sum_to (days_in d) 12 ≡ days_of d
  unfolding days_of
  weights_sum = omega (arith, sum_of_days_lem d (days_facts d taken), ends)

  pub least_days : 1 ≤ days_of d
  unfolding days_of
  least_days = omega arith

  pub most_days : days_of d ≤ 366
  unfolding days_of
  most_days = let p = days_facts d taken in omega (arith, number_most d.last p.last, number_low d.first p.first, ends)

-- ---- a full year

module _ (year : ℕ) (low : 1980 ≤ year) (high : year ≤ 2100) where
  first_year : year_of (written year 1 1) ≡ year
  first_year = omega arith

  pub full_taken : TakenDays (full_year year)
  full_taken =
      let last-month : month_of (written year 12 31) ≡ 12 = omega arith in
      let last-year : year_of (written year 12 31) ≡ year = omega arith in
      let last-day : day_of (written year 12 31) ≡ 31 = omega arith in
      let first-month : month_of (written year 1 1) ≡ 1 = omega arith in
      let first-day : day_of (written year 1 1) ≡ 1 = omega arith in
      facts_taken (full_year year)
      (record {
        first =
            record {
              year_low = rw first_year low;
              year_high = rw first_year high;
              month_low = omega arith;
              month_high = omega arith;
              day_low = omega arith;
              day_high = rw (first-day, first-month, first_year) (omega (arith, (length_range year 0 (omega arith)).0));
            };
        last =
            record {
              year_low = rw last-year low;
              year_high = rw last-year high;
              month_low = omega arith;
              month_high = omega arith;
              day_low = omega arith;
              day_high = rw (last-day, last-month, last-year) (december year);
            };
        in_turn = omega arith;
        same_year = rw (first_year, last-year);
      })

  pub full_weights : (k : ℕ) → k < 12 → days_in (full_year year) k ≡ month_length year (k + 1)
  full_weights k h =
      let r = length_range year k h in
      days_in_lem (full_year year) k
      ∙ rw first_year (omega (arith, r.1))

  pub full_days : days_of (full_year year) ≡ cond (is_leap year) 366 365
  full_days = sym (weights_sum (full_year year) full_taken) ∙ sum_alike _ _ 12 full_weights ∙ year_length year

-- ---- a day alone

module _ (date : ℕ) (day : no_day date ≡ false) where
  pub day_taken : TakenDays (one_day date)
  day_taken = facts_taken (one_day date) (record { first = is_date date day; last = is_date date day; in_turn = omega arith; same_year = refl })

  day_range : (k : ℕ) → k < 12 → length_in (one_day date) k ≤ 31
  day_range k h = (length_range (year_of date) k h).1

  module _ (k : ℕ) (h : k < 12) where
    abbrev weight_in : ℕ
    weight_in = min (length_in (one_day date) k) (date - before_month (one_day date) k) - (date - (before_month (one_day date) k + 1))

    own_month : k + 1 ≡ month_of date → weight_in ≡ cond (eqb (k + 1) (month_of date)) 1 0
    own_month e =
        let p = is_date date day in
        let q : day_of date ≤ length_in (one_day date) k = rw e p.day_high in
        rw (eq-eqb (k + 1) (month_of date) e) (omega (arith, p.day_low))

    month_before : k + 1 < month_of date → weight_in ≡ cond (eqb (k + 1) (month_of date)) 1 0
    month_before e =
        rw (ne_eqb (k + 1) (month_of date) (λ z. omega arith)) (omega (arith, day_range k h))

    month_behind : month_of date < k + 1 → weight_in ≡ cond (eqb (k + 1) (month_of date)) 1 0
    month_behind e =
        rw (ne_eqb (k + 1) (month_of date) (λ z. omega arith)) (omega arith)

    pub day_weights : days_in (one_day date) k ≡ cond (eqb (k + 1) (month_of date)) 1 0
    day_weights =
        days_in_lem (one_day date) k
        ∙ ⊎_elim (λ (a : k + 1 ≤ month_of date). ⊎_elim (λ (b : month_of date ≤ k + 1). own_month (omega arith)) month_before (le_or_lt (month_of date) (k + 1)))
        month_behind (le_or_lt (k + 1) (month_of date))

-- ---- a month has at most 31 days of a period

pub days_most : (d : Days) (k : ℕ) → k < 12 → days_in d k ≤ 31
days_most d k h = rw (days_in_lem d k) (omega (arith, (length_range (year_of d.first) k h).1))
