-- Laws of the lines of a table of figures. Assumes nothing.
use Prim.Native.Nat.{ℕ, zero, suc, ◌+◌, ◌-◌, ◌*◌, ◌≤◌, ◌<◌}
use mathlib.Core.Path.{◌≡◌, refl, sym, ap, ◌∙◌}
use mathlib.Core.List.{List, [], ◌++◌}
use native.Mathlib.Omega.{arith}
use borrow.Rule.Slice.PartMut.{put_mid}
use lib.ListN.{length, length-append}
use lib.Seq.{sets, length-sets}
use Rattle.figures.specs.declared.Figures.{Figures}
use Rattle.figures.specs.Table.{row_in}
use Rattle.report_lines.specs.Line.{line_at}
use Rattle.report_lines.proofs.Line.{line_most}
use Rattle.report_lines.proofs.Stores.{sets_append, sets_all, part_back}
use Rattle.listing.specs.Report.{lines_from, lines_of}

-- the lines from line k on
module _ (f : Figures) (k : ℕ) where
  pub unroll : k < 15 → lines_from f (15 - k) k ≡ line_at k (row_in f k) ++ lines_from f (15 - (k + 1)) (k + 1)
  unfolding lines_from
  unroll h = let e : 15 - k ≡ suc (15 - (k + 1)) = omega arith in rw e

  pub unrolled_length : k < 15 → length (lines_from f (15 - k) k) ≡ length (line_at k (row_in f k)) + length (lines_from f (15 - (k + 1)) (k + 1))
  unrolled_length h = ap length (unroll h) ∙ length-append (line_at k (row_in f k)) (lines_from f (15 - (k + 1)) (k + 1))

  pub no_lines : 15 ≤ k → lines_from f (15 - k) k ≡ []
  unfolding lines_from
  no_lines h = let e : 15 - k ≡ 0 = omega arith in rw e

pub all_lines : (f : Figures) → lines_from f (15 - 0) 0 ≡ lines_of f
unfolding lines_of
all_lines f = refl

-- at most 15 lines of 97 bytes
lines_most : (f : Figures) (n k : ℕ) → length (lines_from f n k) ≤ 97 * n
unfolding lines_from
lines_most f zero k = omega arith
lines_most f (suc n) k =
    omega (arith, length-append (line_at k (row_in f k)) (lines_from f n (k + 1)), line_most k (row_in f k), lines_most f n (k + 1))

pub all_most : (f : Figures) → length (lines_of f) ≤ 1455
unfolding lines_of
all_most f = lines_most f 15 0

-- lines 0 to k - 1 are written to a report, up to the byte at
pub record Writing (f : Figures) (k at : ℕ) (report : List ℕ) : Type 0 where
  pub size : length report ≡ length (lines_of f)
  pub left : at + length (lines_from f (15 - k) k) ≡ length report
  pub rest : sets report at (lines_from f (15 - k) k) ≡ lines_of f

pub writing_none : (f : Figures) (report : List ℕ) → length report ≡ length (lines_of f) → Writing f 0 0 report
writing_none f report h =
    record { size = h; left = omega (arith, h, ap length (all_lines f)); rest = ap (sets report 0) (all_lines f) ∙ sets_all report (lines_of f) (sym h) }

-- one line more, whose length is n
module _ {f : Figures} {k at : ℕ} {report : List ℕ} (w : Writing f k at report) (n : ℕ) (h : k < 15) (e : n ≡ length (line_at k (row_in f k))) where
  pub line_fits : at + n ≤ length report
  line_fits = omega (arith, w.left, unrolled_length f k h)

  pub line_ends : at + n ≤ 1455
  line_ends = omega (arith, line_fits, w.size, all_most f)

  pub writing_more : (m : ℕ) (line : List ℕ) → m ≡ n → line ≡ line_at k (row_in f k) → Writing f (k + 1) (at + n) (put_mid at m report line)
  writing_more m line q d =
      let put : put_mid at m report line ≡ sets report at (line_at k (row_in f k)) = ap (put_mid at m report) d ∙ part_back at m report (line_at k (row_in f k)) (sym (q ∙ e)) (omega (arith, line_fits)) in
      let long : length (put_mid at m report line) ≡ length report = ap length put ∙ length-sets report at (line_at k (row_in f k)) in
      record {
        size = long ∙ w.size;
        left = omega (arith, long, w.left, unrolled_length f k h);
        rest = rw (put, e) (sym (sets_append report at (line_at k (row_in f k)) _) ∙ sym (ap (sets report at) (unroll f k h)) ∙ w.rest);
      }

pub writing_done : {f : Figures} {k at : ℕ} {report : List ℕ} → Writing f k at report → 15 ≤ k → report ≡ lines_of f
writing_done w h = rw (no_lines _ _ h) at w.rest
