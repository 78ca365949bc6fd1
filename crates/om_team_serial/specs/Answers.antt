-- What a function gives, and what it answers, unless memory runs out.
use Rattle.std.specs.Prelude.{◌≡◌, Result, IfOk}
use Rattle.om_state.specs.State.{State}
use Rattle.om_memory.specs.declared.memory.Memory.{Memory}
use Rattle.om_memory.specs.Memories.{state_of}
use Rattle.om_team_serial.specs.declared.row.Answer.{Answer}
use Rattle.om_team_serial.specs.Rows.{Asked, answered}

-- a function gives this
abbrev pub Gives : {A E : Type 0} → Result A E → A → Type 0
Gives result given = IfOk result (λ x. x ≡ given)

-- a function answers what is asked, whatever the state
abbrev pub Answers : {E : Type 0} → Result Answer E → Asked → Type 0
Answers result asked = (s : State) → IfOk result (λ answer. answer ≡ answered asked s)

-- a function answers what is asked, at the state of a store
abbrev pub AnswersAt : {E : Type 0} → Result Answer E → Asked → Memory → Type 0
AnswersAt result asked store = IfOk result (λ answer. answer ≡ answered asked (state_of store))
