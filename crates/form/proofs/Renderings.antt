-- Renderings are taken: fields, lines, sheets. Assumes nothing.
use Prim.Native.Nat.{ℕ, suc, ◌+◌, ◌*◌, ◌/◌, ◌%◌, ◌^◌, ◌≤◌, ◌<◌}
use mathlib.Core.Path.{◌≡◌, refl, sym, ap, ◌∙◌}
use mathlib.Core.List.{List, [], ◌∷◌, ◌++◌, map, append_assoc}
use mathlib.Core.Bool.{true, false, cond}
use Rattle.std.specs.Prelude.{Some}
use Rattle.fields.specs.Field.{parse}
use native.Mathlib.Omega.{arith}
use lib.IntN.{ℤ, pos, negsuc, nat_abs}
use lib.ListN.{length, get_or, take, drop, length-append}
use lib.Seq.{take_at, drop_at, get_or-append-add, drop-drop}
use Rattle.units.specs.Lists.{tab}
use Rattle.units.proofs.Sums.{sum_alike}
use Rattle.units.specs.Grounds.{first_fit}
use Rattle.units.proofs.Grounds.{passed}
use Rattle.units.proofs.Tab.{tab_at, tab_alike}
use Rattle.units.proofs.Tests.{inside, inside_high, all}
use Rattle.fields.proofs.RoundTrip.{taken, taken_minus, length_minus}
use Rattle.text.proofs.Write.{length_render}
use Rattle.classes.specs.Classes.{x_count}
use Rattle.calendar.specs.declared.Period.{Period}
use Rattle.calendar.specs.declared.Period.TheVariants as period
use Rattle.calendar.specs.Periods.{TakenPeriod, month_weight}
use Rattle.calendar.proofs.Months.{Date}
use Rattle.calendar.proofs.Laws.{days_facts}
use Rattle.coldstart.specs.ColdStart.{temperature_ok, Slope, slope_of, month_product, weighed_at, cold_sum, x_from, cold_x, Climate}
use Rattle.coldstart.proofs.ColdStart.{temperature_size}
use Rattle.inventory.specs.declared.Head.{Head}
use Rattle.inventory.specs.declared.Record.{Record}
use Rattle.inventory.specs.declared.Run.{Run}
use Rattle.inventory.specs.Records.{month_ok, record_grounds}
use Rattle.inventory.specs.Opening.{empty_run, fresh_run, open_number, open_run}
use Rattle.inventory.specs.Adding.{add_number, add_run}
use Rattle.inventory.proofs.Records.{climate, period_taken, record_limits}
use Rattle.accuracy.specs.Claim.{run_after}
use Rattle.verdicts.proofs.Verdicts.{by_period}
use Rattle.recording.proofs.Runs.{open_by, run_opened, ready}
use Rattle.lines.specs.Lines.{lines, head_widths, record_widths, total, fields, numbers_in, numbers_of}
use Rattle.lines.specs.Records.{counts_of, head_of, record_of}
use Rattle.sheet.specs.Sheet.{Outcome, decided, from_records, from_head, sheet_of}
use Rattle.form.specs.Rendering.{render_signed, render_line, temperature_in, is_dated, days_of_line, head_numbers, render_head, record_numbers, render_record, render_records, render_sheet}
use Rattle.form.specs.Claim.{TakenInTurn, StatedForm}
use Rattle.lines.proofs.Lines.{line_length, first_line_lem, whole_line, line_numbers, other_form}

-- ---- a field

-- the rendering of z in w bytes has w bytes and says z
record Fits (w : ℕ) (z : ℤ) : Type 0 where
  long : length (render_signed w z) ≡ w
  says : parse (render_signed w z) ≡ Some z

fit_pos : (w n : ℕ) → n < 10 ^ suc w → n < 1000000000 → Fits (suc w) (pos n)
unfolding render_signed
fit_pos w n h k = record { long = length_render (suc w) n; says = taken w n h k }

fit_neg : (w n : ℕ) → suc n < 10 ^ w → suc n < 1000000000 → Fits (suc w) (negsuc n)
unfolding render_signed
fit_neg w n h k = record { long = length_minus w (suc n) h; says = taken_minus w (suc n) (omega arith) h k }

-- ---- a line

AllFit : List ℕ → List ℤ → Type 0
AllFit [] [] = Unit
AllFit [] (z ∷ zs) = ⊥
AllFit (w ∷ ws) [] = ⊥
AllFit (w ∷ ws) (z ∷ zs) = Fits w z × AllFit ws zs

-- a rendered line with bytes behind it
record Rendered (ws : List ℕ) (zs : List ℤ) (rest l : List ℕ) : Type 0 where
  size : total ws < length l
  lf : get_or l (total ws) 0 ≡ 10
  numbers : numbers_in (fields ws l) ≡ Some zs
  behind : drop (total ws + 1) l ≡ rest

rendered : (ws : List ℕ) (zs : List ℤ) (rest : List ℕ) → AllFit ws zs → Rendered ws zs rest (render_line ws zs ++ rest)
unfolding AllFit render_line total fields numbers_in
rendered [] [] rest a = record { size = omega arith; lf = refl; numbers = refl; behind = refl }
rendered [] (z ∷ zs) rest a = absurd a
rendered (w ∷ ws) [] rest a = absurd a
rendered (w ∷ ws) (z ∷ zs) rest a =
    let r = rendered ws zs rest a.1 in
    let f : List ℕ = render_signed w z in
    let t : List ℕ = render_line ws zs ++ rest in
    let long : length f ≡ w = a.0.long in
    let e : (f ++ render_line ws zs) ++ rest ≡ f ++ t = append_assoc f (render_line ws zs) rest in
    let d : drop w (f ++ t) ≡ t = drop_at f t w long in
    let n : w + total ws + 1 ≡ w + (total ws + 1) = omega arith in
    rw e
    (record {
      size = rw length-append (omega (arith, r.size));
      lf = ap (λ (k : ℕ). get_or (f ++ t) (k + total ws) 0) (sym long) ∙ get_or-append-add f t (total ws) 0 ∙ r.lf;
      numbers = rw (take_at f t w long, d, a.0.says, r.numbers);
      behind = rw n (sym (drop-drop (total ws + 1) w (f ++ t)) ∙ rw d r.behind);
    })

-- such bytes start with that line
module _ (ws : List ℕ) (zs : List ℤ) (rest l : List ℕ) (r : Rendered ws zs rest l) where
  line_first : lines l ≡ take (line_length l) l ∷ lines rest
  line_first =
      first_line_lem l (omega (arith, r.size))
      ∙ ap (λ (k : List ℕ). take (line_length l) l ∷ lines k) (ap (λ (k : ℕ). drop k l) (whole_line ws l zs r.size r.lf r.numbers) ∙ r.behind)

  line_says : numbers_of ws (take (line_length l) l) ≡ Some zs
  line_says = line_numbers ws l zs r.size r.lf r.numbers

-- ---- a record line

counts_of_lem : (ns : List ℕ) → counts_of (map pos ns) ≡ Some ns
unfolding counts_of
counts_of_lem [] = refl
counts_of_lem (n ∷ ns) = rw (counts_of_lem ns)

record_fits : (rec : Record) → first_fit (record_grounds rec) ≡ 0 → AllFit record_widths (map pos (record_numbers rec))
unfolding AllFit record_widths record_grounds
record_fits rec z =
    let p = passed (record_grounds rec) tt z in
    let lim = record_limits rec z in
    let vehicles : rec.vehicles ≤ 1000000 = inside_high 1 1000000 rec.vehicles p.1.0 in
    let km : rec.km ≤ 999999 = inside_high 1 999999 rec.km p.1.1.0 in
    let class : rec.class ≤ 7 = inside_high 1 7 rec.class p.0 in
    let a : rec.shares.urban ≤ 100 = lim.share 0 (omega arith) in
    let b : rec.shares.rural ≤ 100 = lim.share 1 (omega arith) in
    let c : rec.shares.highway ≤ 100 = lim.share 2 (omega arith) in
    let u : rec.speeds.urban.0 ≤ 130 = (lim.driven 0 (omega arith)).speed_high in
    let v : rec.speeds.rural.0 ≤ 130 = (lim.driven 1 (omega arith)).speed_high in
    let w : rec.speeds.highway.0 ≤ 130 = (lim.driven 2 (omega arith)).speed_high in (
      fit_pos 1 _ (omega arith) (omega arith),
      (
        fit_pos 6 _ (omega arith) (omega arith),
        (
          fit_pos 6 _ (omega arith) (omega arith),
          (
            fit_pos 3 _ (omega arith) (omega arith),
            (
              fit_pos 3 _ (omega arith) (omega arith),
              (
                fit_pos 3 _ (omega arith) (omega arith),
                (fit_pos 3 _ (omega arith) (omega arith), (fit_pos 3 _ (omega arith) (omega arith), (fit_pos 3 _ (omega arith) (omega arith), tt))),
              ),
            ),
          ),
        ),
      ),
    )

module _ (run : Run) (rec : Record) (z : add_number run rec ≡ 0) (rest : List ℕ) where
  record_rendered : Rendered record_widths (map pos (record_numbers rec)) rest (render_record rec ++ rest)
  unfolding render_record
  record_rendered = rendered record_widths (map pos (record_numbers rec)) rest (record_fits rec (ready run rec z).own)

  record_taken : record_of (take (line_length (render_record rec ++ rest)) (render_record rec ++ rest)) ≡ Some rec
  unfolding record_of
  record_taken =
      rw (line_says record_widths (map pos (record_numbers rec)) rest (render_record rec ++ rest) record_rendered, counts_of_lem (record_numbers rec))

decided_taken : (number n : ℕ) (rest : Outcome) → number ≡ 0 → decided number n rest ≡ rest
unfolding decided
decided_taken number n rest e = rw e

pub records_taken : (run : Run) (n : ℕ) (recs : List Record) → TakenInTurn run recs
    → from_records run n (lines (render_records recs)) ≡ record { number = 0; line = 0; run = run_after run recs }
unfolding TakenInTurn from_records render_records run_after lines
records_taken run n [] t = refl
records_taken run n (rec ∷ recs) t =
    let rest = render_records recs in
    rw (line_first record_widths (map pos (record_numbers rec)) rest (render_record rec ++ rest) (record_rendered run rec t.0 rest), record_taken run rec t.0 rest)
    (decided_taken _ n _ t.0 ∙ records_taken (add_run run rec) (n + 1) recs t.1)

-- ---- the head line

fit_temperature : (t : ℤ) → nat_abs t ≤ 400 → Fits 5 t
fit_temperature (pos n) h = fit_pos 4 n (omega arith) (omega arith)
fit_temperature (negsuc n) h = fit_neg 4 n (omega arith) (omega arith)

append_fits : (ws vs : List ℕ) (zs ys : List ℤ) → AllFit ws zs → AllFit vs ys → AllFit (ws ++ vs) (zs ++ ys)
unfolding AllFit
append_fits [] vs [] ys a b = b
append_fits [] vs (z ∷ zs) ys a b = absurd a
append_fits (w ∷ ws) vs [] ys a b = absurd a
append_fits (w ∷ ws) vs (z ∷ zs) ys a b = (a.0, append_fits ws vs zs ys a.1 b)

-- a day has eight digits
day_fits : (date : ℕ) → Date date → Fits 9 (pos date)
day_fits date p = let h : date < 1000000000 = omega (arith, p.year_high) in fit_pos 8 date h h

days_fit : (p : Period) → TakenPeriod p → AllFit (cond (is_dated p) (9 ∷ 9 ∷ []) []) (days_of_line p)
unfolding AllFit
days_fit period.Year z = tt
days_fit (period.Days d) z = let t = days_facts d z in (day_fits d.first t.first, (day_fits d.last t.last, tt))

-- a line of either form is read as what it says
form_read : (p : Period) (trip : ℕ) (temps : ℕ → ℤ) (line : List ℕ) → numbers_of (head_widths (is_dated p)) line ≡ Some (pos trip ∷ (tab temps 12 ++ days_of_line p))
    → head_of line ≡ Some (record { trip = trip; temps = tab temps 12; period = p })
unfolding head_of tab total head_widths
form_read period.Year trip temps line e = rw e
form_read (period.Days d) trip temps line e = rw (other_form (head_widths true) (head_widths false) line _ e (λ q. omega arith), e)

module _ (head : Head) (z : open_number head ≡ 0) where
  -- the head with its twelve temperatures alone, as a line says it
  twelve : Head
  twelve = record { trip = head.trip; temps = tab (temperature_in head) 12; period = head.period }

  same_month : (k : ℕ) → k < 12 → get_or (tab (temperature_in head) 12) k (pos 0) ≡ temperature_in head k
  same_month k h = tab_at (pos 0) (temperature_in head) 12 k h

  month_fits : (k : ℕ) → k < 12 → Fits 5 (temperature_in head k)
  month_fits k h = fit_temperature (temperature_in head k) (temperature_size (temperature_in head k) ((climate head z).temperatures k h)).size

  thirteen_fit : AllFit (head_widths false) (pos head.trip ∷ tab (temperature_in head) 12)
  unfolding AllFit head_widths tab
  thirteen_fit =
      let trip : head.trip ≤ 200 = (climate head z).trip_high in (
        fit_pos 4 _ (omega arith) (omega arith),
        (
          month_fits 0 (omega arith),
          (
            month_fits 1 (omega arith),
            (
              month_fits 2 (omega arith),
              (
                month_fits 3 (omega arith),
                (
                  month_fits 4 (omega arith),
                  (
                    month_fits 5 (omega arith),
                    (
                      month_fits 6 (omega arith),
                      (
                        month_fits 7 (omega arith),
                        (month_fits 8 (omega arith), (month_fits 9 (omega arith), (month_fits 10 (omega arith), (month_fits 11 (omega arith), tt)))),
                      ),
                    ),
                  ),
                ),
              ),
            ),
          ),
        ),
      )

  head_fits : AllFit (head_widths (is_dated head.period)) (head_numbers head)
  unfolding head_widths
  head_fits =
      append_fits (head_widths false) (cond (is_dated head.period) (9 ∷ 9 ∷ []) []) (pos head.trip ∷ tab (temperature_in head) 12) (days_of_line head.period) thirteen_fit
      (days_fit head.period (period_taken head z))

  head_rendered : (rest : List ℕ) → Rendered (head_widths (is_dated head.period)) (head_numbers head) rest (render_head head ++ rest)
  unfolding render_head
  head_rendered rest = rendered (head_widths (is_dated head.period)) (head_numbers head) rest head_fits

  head_taken : (rest : List ℕ) → head_of (take (line_length (render_head head ++ rest)) (render_head head ++ rest)) ≡ Some twelve
  unfolding twelve
  head_taken rest =
      form_read head.period head.trip (temperature_in head) (take (line_length (render_head head ++ rest)) (render_head head ++ rest))
      (line_says (head_widths (is_dated head.period)) (head_numbers head) rest (render_head head ++ rest) (head_rendered rest))

  -- it is opened alike
  same_number : open_number twelve ≡ 0
  unfolding twelve
  same_number =
      let c : Climate head.trip head.temps = climate head z in
      sym
      (open_by twelve 0
      (sym (period_taken head z) ∙ by_period twelve (inside 10 200 head.trip c.trip_low c.trip_high)
      (all (month_ok twelve) 12 (λ k h. ap temperature_ok (same_month k h) ∙ c.temperatures k h))))

  same_sum : (fuel quantity : ℕ) → cold_sum head.period head.trip (tab (temperature_in head) 12) fuel quantity ≡ cold_sum head.period head.trip head.temps fuel quantity
  unfolding cold_sum
  same_sum fuel quantity =
      let s : Slope = slope_of fuel quantity in
      sum_alike (weighed_at head.period head.trip s (tab (temperature_in head) 12)) (weighed_at head.period head.trip s head.temps) 12
      (λ k h. ap (λ (t : ℤ). month_weight head.period k * month_product head.trip s t) (same_month k h))

  same_x_lem : (i : ℕ) → i < x_count → cold_x head.period head.trip (tab (temperature_in head) 12) i ≡ cold_x head.period head.trip head.temps i
  unfolding cold_x x_from
  same_x_lem i b = rw (same_sum 0 0, same_sum (i / 5) (i % 5))

  same_run : open_run twelve ≡ open_run head
  unfolding twelve fresh_run
  same_run =
      sym (run_opened twelve same_number)
      ∙ ap (empty_run head.trip)
      (tab_alike (cold_x head.period head.trip (tab (temperature_in head) 12)) (cold_x head.period head.trip head.temps) x_count same_x_lem)
      ∙ run_opened head z

-- ---- a sheet

pub sheet_taken : (bytes : List ℕ) (head : Head) (recs : List Record) → StatedForm bytes head recs
    → sheet_of bytes ≡ record { number = 0; line = 0; run = run_after (open_run head) recs }
unfolding sheet_of from_head render_sheet
sheet_taken bytes head recs f =
    let z = f.opened in
    let rest = render_records recs in
    rw (
      f.rendered,
      line_first (head_widths (is_dated head.period)) (head_numbers head) rest (render_head head ++ rest) (head_rendered head z rest),
      head_taken head z rest,
      same_run head z,
    )
    (decided_taken _ 1 _ (same_number head z) ∙ records_taken (open_run head) 2 recs f.added)
