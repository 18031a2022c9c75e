-- Answers about lists and sheets as they cross to C: a number and the values (SPECIFICATION, "C interface").
-- Assumes nothing.
use Rattle.std.specs.Prelude.{ℕ, List, Result}
use Rattle.units.specs.declared.Refusal.{Refusal}
use Rattle.units.specs.Refusals.{answer_number}
use Rattle.inventory.specs.declared.Head.{Head}
use Rattle.add_list.specs.declared.ListAdded.{ListAdded}
use Rattle.add_list.specs.Answer.{list_number, list_taken, list_first, list_run, added_taken, added_first, added_run}
use Rattle.sheet.specs.Sheet.{Outcome}
use Rattle.capi_lists.specs.declared.ListAnswer.{ListAnswer}
use Rattle.capi_lists.specs.declared.SheetAnswer.{SheetAnswer}

abbrev pub list_answer : Head → List ℕ → ListAnswer
list_answer head numbers =
    record {
      number = list_number head numbers;
      taken = list_taken head numbers;
      place = (list_first head numbers).place;
      refused = (list_first head numbers).number;
      run = list_run head numbers;
    }

-- the same from what adding a list gives
abbrev pub added_answer : Result ListAdded Refusal → ListAnswer
added_answer a =
    record {
      number = answer_number a;
      taken = added_taken a;
      place = (added_first a).place;
      refused = (added_first a).number;
      run = added_run a;
    }

abbrev pub sheet_answer : Outcome → SheetAnswer
sheet_answer a = record { number = a.number; line = a.line; run = a.run }
