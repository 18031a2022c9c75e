-- Sheets of the stated form, and no others. Assumes nothing.
use mathlib.Core.Path.{◌≡◌, ap}
use mathlib.Core.List.{List}
use Prim.Native.Nat.{ℕ}
use Rattle.inventory.specs.declared.Head.{Head}
use Rattle.inventory.specs.declared.Record.{Record}
use Rattle.inventory.specs.Opening.{open_run}
use Rattle.accuracy.specs.Claim.{run_after}
use Rattle.accuracy.proofs.Whole.{every_list}
use Rattle.sheet.specs.Sheet.{sheet_run, Outcome}
use Rattle.form.specs.Claim.{StatedForm, SheetClaim}
use Rattle.form.proofs.OnlyRenderings.{sheet_only}
use Rattle.form.proofs.Renderings.{sheet_taken}

run_of : (bytes : List ℕ) (head : Head) (recs : List Record) → StatedForm bytes head recs → sheet_run bytes ≡ run_after (open_run head) recs
run_of bytes head recs f = ap (λ (o : Outcome). o.run) (sheet_taken bytes head recs f)

pub whole : SheetClaim
whole =
    record {
      only = sheet_only;
      taken = λ bytes head recs f. ap (λ (o : Outcome). o.number) (sheet_taken bytes head recs f);
      run = run_of;
      near = λ bytes head recs f. rw (run_of bytes head recs f) ((every_list head f.opened).list recs);
    }
