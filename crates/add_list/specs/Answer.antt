-- A head and a list of records, added one after the other (SPECIFICATION, "Lists of records").
-- Assumes nothing.
use Rattle.std.specs.Prelude.{ℕ, ◌+◌, ◌%◌, not, cond, List, [], ◌∷◌, eqb, length, Option, Some, None, Result, Ok, Err}
use Rattle.units.specs.Grounds.{Ground, ground, first_fit}
use Rattle.units.specs.declared.Refusal.{Refusal}
use Rattle.units.specs.Refusals.{refusal_number}
use Rattle.inventory.specs.declared.Head.{Head}
use Rattle.inventory.specs.declared.Record.{Record}
use Rattle.inventory.specs.declared.Run.{Run}
use Rattle.inventory.specs.Records.{head_grounds}
use Rattle.inventory.specs.Opening.{zero_run, open_run}
use Rattle.inventory.specs.Adding.{add_number, add_run}
use Rattle.accuracy.specs.Reference.{accepted}
use Rattle.accuracy.specs.Claim.{run_after}
use Rattle.add_list.specs.declared.FirstRefused.{FirstRefused}
use Rattle.add_list.specs.declared.ListAdded.{ListAdded}
use Rattle.add_list.specs.Records.{records_of}

-- the grounds, in their order: 10 where the list is not of whole records, then those of the head
unfoldable pub list_grounds : Head → List ℕ → List Ground
list_grounds head numbers = ground 10 (not (eqb (length numbers % 9) 0)) ∷ head_grounds head

-- the number of the list: 0 where the records are added
unfoldable pub list_number : Head → List ℕ → ℕ
list_number head numbers = first_fit (list_grounds head numbers)

-- a place among the records, from 1, and the number of the refusal there; 0 and 0 for none
pub record RefusedAt : Type 0 where
  pub place : ℕ
  pub number : ℕ

abbrev pub refused_as : ℕ → ℕ → RefusedAt
refused_as place number = record { place = place; number = number }

-- the first refused one of the records that are added to a run, the first of them at a place; 0 and 0 where none is refused
unfoldable pub first_refused : Run → ℕ → List Record → RefusedAt
first_refused run place [] = refused_as 0 0
first_refused run place (rec ∷ recs) =
    cond (eqb (add_number run rec) 0) (first_refused (add_run run rec) (place + 1) recs) (refused_as place (add_number run rec))

-- the run after the list; the run of zeros where the list is refused
unfoldable pub list_run : Head → List ℕ → Run
list_run head numbers = cond (eqb (list_number head numbers) 0) (run_after (open_run head) (records_of numbers)) zero_run

-- how many of its records were taken; 0 where the list is refused
unfoldable pub list_taken : Head → List ℕ → ℕ
list_taken head numbers = cond (eqb (list_number head numbers) 0) (length (accepted (records_of numbers))) 0

-- the first refused one of its records; 0 and 0 where the list is refused
unfoldable pub list_first : Head → List ℕ → RefusedAt
list_first head numbers = cond (eqb (list_number head numbers) 0) (first_refused (open_run head) 1 (records_of numbers)) (refused_as 0 0)

-- ---- what an answer says of them

-- the place and the number of the first refused one that an answer may carry
abbrev pub refused_at : Option FirstRefused → RefusedAt
refused_at None = refused_as 0 0
refused_at (Some first) = refused_as first.place (refusal_number first.reason)

-- the run of an answer, zeros where it is a refusal
abbrev pub added_run : Result ListAdded Refusal → Run
added_run (Ok added) = added.run
added_run (Err r) = zero_run

-- how many records it says were taken
abbrev pub added_taken : Result ListAdded Refusal → ℕ
added_taken (Ok added) = added.taken
added_taken (Err r) = 0

-- which of them it says was refused first
abbrev pub added_first : Result ListAdded Refusal → RefusedAt
added_first (Ok added) = refused_at added.first
added_first (Err r) = refused_as 0 0
