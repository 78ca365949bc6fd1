-- What an instruction asks of the state, and what comes of the values there.
use Rattle.std.specs.Prelude.{ℕ, ℤ, pos, Bool, Option, List, [], ◌∷◌}
use Rattle.std.specs.Ordering.{int_eq}
use Rattle.om_foot.specs.declared.footprint.Access.{Access}
use Rattle.om_code.specs.declared.frame.Operand.{Operand}
use Rattle.om_code.specs.declared.frame.Cell.TheVariants as cell
use Rattle.om_state.specs.declared.control.Edit.TheVariants.{Go}
use Rattle.om_state.specs.declared.step.Update.{Update}
use Rattle.om_state.specs.declared.value.Val.{Val}
use Rattle.om_state.specs.declared.value.Val.TheVariants as value
use Rattle.om_state.specs.State.{State, values_read}
use Rattle.om_team_serial.specs.declared.row.Row.{Row}
use Rattle.om_team_serial.specs.declared.row.Row.TheVariants.{Goes}
use Rattle.om_team_serial.specs.declared.row.Answer.{Answer}

-- what a step asks: the objects that it names besides its worker's control, by that control alone, and its
-- row, by the values that it reads there
pub record Asked : Type 0 where
  pub names : List Access
  pub row : List Val → Row

-- the answer at a state
abbrev pub answered : Asked → State → Answer
answered a s = record { names = a.names; row = a.row (values_read a.names s) }

-- a row that control, program and choice decide alone
abbrev pub decided : Row → Asked
decided r = record { names = []; row = λ _. r }

-- a row that goes on, with so many operands taken and then one pushed
abbrev pub goes : ℕ → ℕ → Option Operand → List Update → Row
goes to takes pushed updates = Goes (Go to takes pushed ∷ []) updates

-- what stands at the first object that is read
abbrev pub first_of : List Val → Val
first_of [] = value.Cell cell.Unset
first_of (v ∷ rest) = v

-- what stands behind it
abbrev pub rest_of : List Val → List Val
rest_of [] = []
rest_of (v ∷ rest) = rest

-- whether a count is 0
abbrev pub is_zero : ℤ → Bool
is_zero count = int_eq count (pos 0)
