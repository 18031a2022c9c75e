-- The report of a run: its length, and its answer and the buffer by the grounds. Assumes nothing.
use Prim.Native.Nat.{ℕ, ◌≤◌, ◌<◌}
use mathlib.Core.Path.{◌≡◌, ap, ◌∙◌}
use mathlib.Core.Bool.{true, false}
use mathlib.Core.List.{List, ◌++◌}
use lib.ListN.{length, drop}
use borrow.Author.Tests.{lt-ltb, le-ltb}
use Rattle.units.specs.Grounds.{first_fit}
use Rattle.units.specs.Refusals.{refusal_number}
use Rattle.units.specs.declared.Refusal.TheVariants.{ShortBuffer, RunOrder}
use Rattle.inventory.specs.declared.Run.{Run}
use Rattle.inventory.specs.Order.{in_order}
use Rattle.figures.specs.declared.Figures.{Figures}
use Rattle.figures.specs.Table.{figures}
use Rattle.std.specs.Prelude.{Ok, Err}
use Rattle.listing.specs.Report.{lines_of, report_bytes, report_grounds, reported_answer, report_number, report_of, written, report_buffer}
use Rattle.listing.proofs.Lines.{all_most}

-- a report has at most 15 lines of 97 bytes
pub report_most : (run : Run) → length (report_bytes run) ≤ 1455
unfolding report_bytes
report_most run = all_most (figures run)

module _ (run : Run) (b : List ℕ) where
  number_order : in_order run ≡ false → report_number run b ≡ 16
  unfolding report_number report_grounds first_fit
  number_order o = rw o

  number_short : in_order run ≡ true → length b < length (report_bytes run) → report_number run b ≡ 14
  unfolding report_number report_grounds first_fit
  number_short o h = rw (o, lt-ltb (length b) (length (report_bytes run)) h)

  number_written : in_order run ≡ true → length (report_bytes run) ≤ length b → report_number run b ≡ 0
  unfolding report_number report_grounds first_fit
  number_written o h = rw (o, le-ltb (length b) (length (report_bytes run)) h)

  pub refused_order : in_order run ≡ false → (reported_answer (Err RunOrder) ≡ report_of run b) × (b ≡ report_buffer run b)
  unfolding reported_answer report_of report_buffer refusal_number
  refused_order o = let e = number_order o in (rw e, rw e)

  module _ (o : in_order run ≡ true) (f : Figures) (e : f ≡ figures run) (n : ℕ) (l : n ≡ length (lines_of f)) where
    lines_same : lines_of f ≡ report_bytes run
    unfolding report_bytes
    lines_same = ap lines_of e

    length_same : n ≡ length (report_bytes run)
    length_same = l ∙ ap length lines_same

    pub refused_short : length b < n → (reported_answer (Err ShortBuffer) ≡ report_of run b) × (b ≡ report_buffer run b)
    unfolding reported_answer report_of report_buffer refusal_number
    refused_short h = let z = number_short o (rw length_same at h) in (rw z, rw z)

    pub report_written : (c : List ℕ) → n ≤ length b → c ≡ lines_of f ++ drop n b → (reported_answer (Ok n) ≡ report_of run b) × (c ≡ report_buffer run b)
    unfolding reported_answer report_of report_buffer written
    report_written c h w =
        let k : length (report_bytes run) ≤ length b = rw length_same at h in
        let z = number_written o k in
        (rw (z, length_same), rw z (w ∙ ap (λ (t : List ℕ). t ++ drop n b) lines_same ∙ ap (λ (m : ℕ). report_bytes run ++ drop m b) length_same))
