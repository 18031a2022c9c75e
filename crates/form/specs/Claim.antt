-- "Sheets of the stated form, and no others", as one statement.
-- Assumes nothing.
use Rattle.std.specs.Prelude.{ℕ, ◌≡◌, List, [], ◌∷◌}
use Rattle.inventory.specs.declared.Head.{Head}
use Rattle.inventory.specs.declared.Record.{Record}
use Rattle.inventory.specs.declared.Run.{Run}
use Rattle.inventory.specs.Opening.{open_number, open_run}
use Rattle.inventory.specs.Adding.{add_number, add_run}
use Rattle.accuracy.specs.Reference.{reference_of}
use Rattle.accuracy.specs.Claim.{run_after, ListClaim}
use Rattle.sheet.specs.Sheet.{sheet_number, sheet_run}
use Rattle.form.specs.Rendering.{render_sheet}

-- the adds take the records in turn, each on the run after those before it
unfoldable pub TakenInTurn : Run → List Record → Type 0
TakenInTurn run [] = Unit
TakenInTurn run (rec ∷ recs) = (add_number run rec ≡ 0) × TakenInTurn (add_run run rec) recs

-- the bytes are the rendering of a head that opening takes and of records that the adds in turn take
pub record StatedForm (bytes : List ℕ) (head : Head) (recs : List Record) : Type 0 where
  pub opened : open_number head ≡ 0
  pub added : TakenInTurn (open_run head) recs
  pub rendered : bytes ≡ render_sheet head recs

pub record SheetClaim : Type 0 where
  -- bytes are taken only if they are of the stated form, for some head and records
  pub only : (bytes : List ℕ) → sheet_number bytes ≡ 0 → (head : Head) × (recs : List Record) × StatedForm bytes head recs
  -- and they are taken if they are
  pub taken : (bytes : List ℕ) (head : Head) (recs : List Record) → StatedForm bytes head recs → sheet_number bytes ≡ 0
  -- the run is then that of those adds
  pub run : (bytes : List ℕ) (head : Head) (recs : List Record) → StatedForm bytes head recs → sheet_run bytes ≡ run_after (open_run head) recs
  -- and all that SPECIFICATION, "Accuracy", says of a list holds of those records
  pub near : (bytes : List ℕ) (head : Head) (recs : List Record) → StatedForm bytes head recs → ListClaim (sheet_run bytes) (reference_of head recs)
