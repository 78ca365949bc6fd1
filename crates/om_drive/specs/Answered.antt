-- Answers that came to orders, by their numbers.
use Rattle.std.specs.Prelude.{◌≡◌, ◌++◌, ℕ, List, [], Vec, map}
use Rattle.std.specs.declared.alloc.Global.{Global}
use Rattle.om_book.specs.declared.order.Answer.{Answer}
use Rattle.om_book.specs.Rounds.{answer_number, Begins}

-- the numbers of the answers are these
abbrev pub AnswerAll : List ℕ → Vec Answer Global → Type 0
AnswerAll due answers = map answer_number answers.items ≡ due

-- the numbers of the answers are a beginning of these
abbrev pub AnswerSome : List ℕ → Vec Answer Global → Type 0
AnswerSome due answers = Begins [] (map answer_number answers.items) due

-- answers came behind those that were there, and their numbers are these
abbrev pub AddsAll : List ℕ → Vec Answer Global → Vec Answer Global → Type 0
AddsAll due old new = map answer_number new.items ≡ map answer_number old.items ++ due

-- answers came behind those that were there, and their numbers are a beginning of these
abbrev pub AddsSome : List ℕ → Vec Answer Global → Vec Answer Global → Type 0
AddsSome due old new = Begins (map answer_number old.items) (map answer_number new.items) due
