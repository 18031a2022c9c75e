-- Answers as they cross to C: a number and the values, 0 for every value of a refused answer (SPECIFICATION, "C interface").
-- Assumes nothing.
use Rattle.inventory.specs.Printed.{Answer}
use Rattle.balance.specs.Balance as balance
use Rattle.capi_questions.specs.declared.GramsAnswer.{GramsAnswer}
use Rattle.capi_questions.specs.declared.BalanceAnswer.{BalanceAnswer}

abbrev pub grams_answer : Answer → GramsAnswer
grams_answer a = record { number = a.number; grams = record { 0 = a.grams } }

abbrev pub balance_answer : balance.BalanceAnswer → BalanceAnswer
balance_answer a = record { number = a.number; k = a.k; digits = a.digits; grams = record { 0 = a.grams } }
