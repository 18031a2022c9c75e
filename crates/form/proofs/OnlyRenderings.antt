-- What is taken is a rendering: fields, lines, sheets. Assumes nothing.
use Prim.Native.Nat.{ℕ, suc, ◌+◌, ◌≤◌}
use mathlib.Core.Path.{◌≡◌, refl, sym, ap, ◌∙◌}
use mathlib.Core.List.{List, [], ◌∷◌, ◌++◌, map}
use mathlib.Core.Bool.{Bool, true, false, cond}
use Rattle.std.specs.Prelude.{Option, None, Some, option_and_then}
use native.Mathlib.Omega.{arith}
use lib.Dec.{eqb}
use lib.IntN.{ℤ, pos, negsuc}
use lib.ListN.{length, get_or, take, drop, length-drop, take-append-drop}
use lib.Seq.{get_or-drop, length-take-le, ext_get_or}
use borrow.Author.Tests.{eqb-true, eqb-false}
use Rattle.units.specs.Lists.{tab}
use Rattle.units.proofs.Tab.{tab_length, tab_at}
use Rattle.fields.specs.Field.{parse, count_of}
use Rattle.fields.proofs.RoundTrip.{only, only_minus}
use Rattle.calendar.specs.declared.Period.{Period}
use Rattle.calendar.specs.declared.Period.TheVariants as period
use Rattle.calendar.specs.Periods.{days}
use Rattle.inventory.specs.declared.Head.{Head}
use Rattle.inventory.specs.declared.Record.{Record}
use Rattle.inventory.specs.declared.Run.{Run}
use Rattle.inventory.specs.Opening.{open_number, open_run}
use Rattle.inventory.specs.Adding.{add_number, add_run}
use Rattle.lines.specs.Lines.{glue, lines, head_widths, record_widths, total, fields, numbers_in, numbers_of}
use Rattle.lines.specs.Records.{counts_of, period_with, head_over, head_with, or_else, head_of, record_with, record_of}
use Rattle.sheet.specs.Sheet.{Outcome, refused_at, decided, line_number, line_run, from_records, head_number, head_run, from_head, sheet_of}
use Rattle.form.specs.Rendering.{render_signed, render_line, temperature_in, is_dated, days_of_line, head_numbers, render_head, record_numbers, render_record, render_records, render_sheet}
use Rattle.form.specs.Claim.{TakenInTurn, StatedForm}
use Rattle.lines.proofs.Lines.{before_back, then_back, count_numbers, numbers_back, shaped_back}

-- ---- a field

field_only : (f : List ℕ) (z : ℤ) → parse f ≡ Some z → f ≡ render_signed (length f) z
unfolding render_signed
field_only f (pos n) e = (only f n e).0
field_only f (negsuc n) e = only_minus f n e

-- ---- a line

lf_alone : (l : List ℕ) → length l ≡ 1 → get_or l 0 0 ≡ 10 → l ≡ 10 ∷ []
lf_alone [] h e = absurd (omega arith)
lf_alone (b ∷ []) h e = ap (λ (x : ℕ). x ∷ []) e
lf_alone (b ∷ d ∷ l) h e = absurd (omega arith)

fields_only : (ws l : List ℕ) (zs : List ℤ) → length l ≡ total ws + 1 → get_or l (total ws) 0 ≡ 10 → numbers_in (fields ws l) ≡ Some zs → l ≡ render_line ws zs
unfolding total numbers_in fields render_line
fields_only [] l zs h lf e = lf_alone l h lf
fields_only (w ∷ ws) l zs h lf e =
    let p = before_back (parse (take w l)) (numbers_in (fields ws (drop w l))) zs e in
    let m : length (take w l) ≡ w = length-take-le w l (omega arith) in
    let a : take w l ≡ render_signed w p.0 = field_only (take w l) p.0 p.2 ∙ ap (λ (k : ℕ). render_signed k p.0) m in
    let b : drop w l ≡ render_line ws p.1 = fields_only ws (drop w l) p.1 (rw length-drop (omega arith)) (rw get_or-drop lf) p.3 in
    let q : take w l ++ drop w l ≡ render_signed w p.0 ++ render_line ws p.1 = cc in
    sym (take-append-drop w l) ∙ q ∙ ap (render_line (w ∷ ws)) (sym p.4)

line_only : (ws line : List ℕ) (zs : List ℤ) → numbers_of ws line ≡ Some zs → line ≡ render_line ws zs
line_only ws line zs e =
    let p = numbers_back ws line zs e in
    let q = shaped_back ws line p.0 in
    fields_only ws line zs q.0 q.1 p.1

-- as many numbers as widths
line_count : (ws line : List ℕ) (zs : List ℤ) → numbers_of ws line ≡ Some zs → length zs ≡ length ws
line_count ws line zs e = count_numbers ws line zs (numbers_back ws line zs e).1

-- ---- the head line

count_is : (z : ℤ) (n : ℕ) → count_of z ≡ Some n → z ≡ pos n
count_is (pos m) n e = let q : m ≡ n = cc in ap pos q
count_is (negsuc m) n e = let y : ◌≡◌ {A = ℕ} 0 1 = cc in absurd (omega arith)

tab_back : (ts : List ℤ) → length ts ≡ 12 → ts ≡ tab (λ k. get_or ts k (pos 0)) 12
tab_back ts h =
    ext_get_or (pos 0) ts (tab (λ k. get_or ts k (pos 0)) 12) (h ∙ sym (tab_length (λ k. get_or ts k (pos 0)) 12))
    (λ i l. sym (tab_at (pos 0) (λ k. get_or ts k (pos 0)) 12 i (omega arith)))

-- what stands behind the temperatures is the period's
period_back : (ds : List ℤ) (p : Period) → length ds ≤ 2 → period_with ds ≡ Some p → ds ≡ days_of_line p
period_back [] p h e = let q : period.Year ≡ p = cc in ap days_of_line q
period_back (first ∷ []) p h e = let y : ◌≡◌ {A = ℕ} 0 1 = cc in absurd (omega arith)
period_back (first ∷ last ∷ []) p h e =
    let a = then_back (count_of first) (λ n. option_and_then (λ m. Some (period.Days (days n m))) (count_of last)) p e in
    let b = then_back (count_of last) (λ m. Some (period.Days (days a.0 m))) p a.2 in
    let q : period.Days (days a.0 b.0) ≡ p = cc in
    let x : first ≡ pos a.0 = count_is first a.0 a.1 in
    let y : last ≡ pos b.0 = count_is last b.0 b.1 in
    (λ i. x i ∷ y i ∷ []) ∙ ap days_of_line q
period_back (first ∷ last ∷ z ∷ zs) p h e = absurd (omega arith)

-- so the form of the line is the period's
form_is : (dated : Bool) (p : Period) → length (days_of_line p) + 13 ≡ length (head_widths dated) → dated ≡ is_dated p
unfolding head_widths
form_is true period.Year e = absurd (omega arith)
form_is true (period.Days d) e = refl
form_is false period.Year e = refl
form_is false (period.Days d) e = absurd (omega arith)

widths_most : (dated : Bool) → (13 ≤ length (head_widths dated)) × (length (head_widths dated) ≤ 15)
unfolding head_widths
widths_most true = (omega arith, omega arith)
widths_most false = (omega arith, omega arith)

-- L and twelve T
over_back : (p : Period) (zs : List ℤ) (head : Head) → length zs ≡ 13 → head_over p zs ≡ Some head
    → (zs ≡ pos head.trip ∷ tab (temperature_in head) 12) × (p ≡ head.period)
over_back p [] head h e = absurd (omega arith)
over_back p (z ∷ ts) head h e =
    let c = then_back (count_of z) (λ n. Some (record { trip = n; temps = ts; period = p })) head e in
    let q : ◌≡◌ {A = Head} (record { trip = c.0; temps = ts; period = p }) head = cc in
    let x : z ≡ pos head.trip = count_is z c.0 c.1 ∙ ap (λ (y : Head). pos y.trip) q in
    let t : ts ≡ tab (temperature_in head) 12 = tab_back ts (omega arith) ∙ ap (λ (y : Head). tab (temperature_in y) 12) q in
    ((λ i. x i ∷ t i), ap (λ (y : Head). y.period) q)

head_with_lem : (dated : Bool) (zs : List ℤ) (head : Head) → length zs ≡ length (head_widths dated) → head_with zs ≡ Some head
    → (zs ≡ head_numbers head) × (dated ≡ is_dated head.period)
head_with_lem dated zs head h e =
    let r = then_back (period_with (drop 13 zs)) (λ q. head_over q (take 13 zs)) head e in
    let w = widths_most dated in
    let n : length (take 13 zs) ≡ 13 = length-take-le 13 zs (omega (arith, w.0)) in
    let m : length (drop 13 zs) + 13 ≡ length zs = rw length-drop (omega (arith, w.0)) in
    let o = over_back r.0 (take 13 zs) head n r.2 in
    let d : drop 13 zs ≡ days_of_line head.period = period_back (drop 13 zs) r.0 (omega (arith, w.1)) r.1 ∙ ap days_of_line o.1 in
    (sym (take-append-drop 13 zs) ∙ (λ i. o.0 i ++ d i), form_is dated head.period (omega (arith, m, ap length d)))

numbers_only : (dated : Bool) (line : List ℕ) (zs : List ℤ) (head : Head) → numbers_of (head_widths dated) line ≡ Some zs → head_with zs ≡ Some head → line ≡ render_head head
unfolding render_head
numbers_only dated line zs head e h =
    let p = head_with_lem dated zs head (line_count (head_widths dated) line zs e) h in
    line_only (head_widths dated) line zs e ∙ (λ i. render_line (head_widths (p.1 i)) (p.0 i))

-- either form
else_by : (line : List ℕ) (zs : List ℤ) (head : Head) (a : Option (List ℤ)) → numbers_of (head_widths false) line ≡ a
    → or_else a (numbers_of (head_widths true) line) ≡ Some zs → head_with zs ≡ Some head → line ≡ render_head head
else_by line zs head None p e h = numbers_only true line zs head e h
else_by line zs head (Some ys) p e h = let q : ys ≡ zs = cc in numbers_only false line zs head (p ∙ ap Some q) h

pub head_only : (line : List ℕ) (head : Head) → head_of line ≡ Some head → line ≡ render_head head
unfolding head_of
head_only line head e =
    let p = then_back (or_else (numbers_of (head_widths false) line) (numbers_of (head_widths true) line)) head_with head e in
    else_by line p.0 head (numbers_of (head_widths false) line) refl p.1 p.2

-- ---- a record line

counts_are : (zs : List ℤ) (ns : List ℕ) → counts_of zs ≡ Some ns → zs ≡ map pos ns
unfolding counts_of
counts_are [] ns e = let q : [] ≡ ns = cc in rw (sym q)
counts_are (z ∷ zs) ns e =
    let p = before_back (count_of z) (counts_of zs) ns e in
    let a : z ≡ pos p.0 = count_is z p.0 p.2 in
    let b : zs ≡ map pos p.1 = counts_are zs p.1 p.3 in
    rw p.4 (cc)

length-map : (ns : List ℕ) → length (map pos ns) ≡ length ns
length-map [] = refl
length-map (n ∷ ns) = ap suc (length-map ns)

record_back : (ns : List ℕ) → length ns ≡ 9 → ns ≡ record_numbers (record_with ns)
record_back [] h = absurd (omega arith)
record_back (a ∷ []) h = absurd (omega arith)
record_back (a ∷ b ∷ []) h = absurd (omega arith)
record_back (a ∷ b ∷ c ∷ []) h = absurd (omega arith)
record_back (a ∷ b ∷ c ∷ d ∷ []) h = absurd (omega arith)
record_back (a ∷ b ∷ c ∷ d ∷ e ∷ []) h = absurd (omega arith)
record_back (a ∷ b ∷ c ∷ d ∷ e ∷ f ∷ []) h = absurd (omega arith)
record_back (a ∷ b ∷ c ∷ d ∷ e ∷ f ∷ g ∷ []) h = absurd (omega arith)
record_back (a ∷ b ∷ c ∷ d ∷ e ∷ f ∷ g ∷ i ∷ []) h = absurd (omega arith)
record_back (a ∷ b ∷ c ∷ d ∷ e ∷ f ∷ g ∷ i ∷ j ∷ []) h = refl
record_back (a ∷ b ∷ c ∷ d ∷ e ∷ f ∷ g ∷ i ∷ j ∷ k ∷ l) h = absurd (omega arith)

pub record_only : (line : List ℕ) (rec : Record) → record_of line ≡ Some rec → line ≡ render_record rec
unfolding record_of render_record record_widths
record_only line rec e =
    let q = then_back (option_and_then counts_of (numbers_of record_widths line)) (λ ns. Some (record_with ns)) rec e in
    let p = then_back (numbers_of record_widths line) counts_of q.0 q.1 in
    let r : record_with q.0 ≡ rec = cc in
    let z : p.0 ≡ map pos q.0 = counts_are p.0 q.0 p.2 in
    let n : length q.0 ≡ 9 = sym (length-map q.0) ∙ ap length (sym z) ∙ line_count record_widths line p.0 p.1 in
    let b : q.0 ≡ record_numbers rec = record_back q.0 n ∙ ap record_numbers r in
    line_only record_widths line p.0 p.1 ∙ ap (render_line record_widths) (z ∙ ap (map pos) b)

-- ---- a sheet

-- lines put together
join : List (List ℕ) → List ℕ
join [] = []
join (l ∷ ls) = l ++ join ls

join_glue : (b : ℕ) (t : Bool) (ls : List (List ℕ)) → join (glue b t ls) ≡ b ∷ join ls
unfolding join
join_glue b true ls = refl
join_glue b false [] = refl
join_glue b false (l ∷ ls) = refl

whole : (s : List ℕ) → join (lines s) ≡ s
unfolding join lines
whole [] = refl
whole (b ∷ bs) = join_glue b (eqb b 10) (lines bs) ∙ ap (λ (l : List ℕ). b ∷ l) (whole bs)

decided_back : (number n : ℕ) (rest : Outcome) → (decided number n rest).number ≡ 0 → (number ≡ 0) × (rest.number ≡ 0)
unfolding decided
decided_back number n rest e = by (eqb number 0) refl e
  where
    by : (t : Bool) → eqb number 0 ≡ t → (cond t rest (refused_at number n)).number ≡ 0 → (number ≡ 0) × (rest.number ≡ 0)
    by true p e = (eqb-true number 0 p, e)
    by false p e = absurd (eqb-false number 0 p e)

line_back : (run : Run) (o : Option Record) → line_number run o ≡ 0 → (rec : Record) × (o ≡ Some rec) × (add_number run rec ≡ 0)
line_back run None e = absurd (omega arith)
line_back run (Some rec) e = (rec, refl, e)

head_back : (o : Option Head) → head_number o ≡ 0 → (head : Head) × (o ≡ Some head) × (open_number head ≡ 0)
head_back None e = absurd (omega arith)
head_back (Some head) e = (head, refl, e)

records_only : (run : Run) (n : ℕ) (ls : List (List ℕ)) → (from_records run n ls).number ≡ 0
    → (recs : List Record) × TakenInTurn run recs × (join ls ≡ render_records recs)
unfolding from_records TakenInTurn join render_records
records_only run n [] e = ([], tt, refl)
records_only run n (l ∷ ls) e =
    let d = decided_back (line_number run (record_of l)) n (from_records (line_run run (record_of l)) (n + 1) ls) e in
    let p = line_back run (record_of l) d.0 in
    let r = records_only (add_run run p.0) (n + 1) ls (rw p.1 at d.1) in
    (p.0 ∷ r.0, (p.2, r.1), rw (sym (record_only l p.0 p.1), sym r.2))

form_by : (bytes : List ℕ) (ls : List (List ℕ)) → (from_head ls).number ≡ 0 → bytes ≡ join ls → (head : Head) × (recs : List Record) × StatedForm bytes head recs
unfolding from_head join render_sheet
form_by bytes [] e w = absurd (omega arith)
form_by bytes (l ∷ ls) e w =
    let d = decided_back (head_number (head_of l)) 1 (from_records (head_run (head_of l)) 2 ls) e in
    let p = head_back (head_of l) d.0 in
    let r = records_only (open_run p.0) 2 ls (rw p.1 at d.1) in
    (p.0, r.0, record { opened = p.2; added = r.1; rendered = w ∙ rw (sym (head_only l p.0 p.1), sym r.2) })

pub sheet_only : (bytes : List ℕ) → (sheet_of bytes).number ≡ 0 → (head : Head) × (recs : List Record) × StatedForm bytes head recs
unfolding sheet_of
sheet_only bytes e = form_by bytes (lines bytes) e (sym (whole bytes))
