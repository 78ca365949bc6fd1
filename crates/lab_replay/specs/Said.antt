-- What is said of a step: the number that it put into a variable, whether its worker came to a fault, and how its
-- instruction accesses variables.
use Rattle.std.specs.Prelude.{◌≡◌, ◌++◌, ◌∷◌, [], ℤ, Option, None, Some, List, ℕ, Vec, codes, is_some}
use Rattle.std.specs.declared.alloc.Global.{Global}
use Rattle.std.specs.Fmt.{signed_decimal}
use Rattle.std.specs.Option.{option_or}
use Rattle.om_code.specs.declared.frame.Cell.{Cell}
use Rattle.om_code.specs.declared.frame.Cell.TheVariants as cell
use Rattle.om_code.specs.declared.frame.Fault.{Fault}
use Rattle.om_code.specs.declared.raw.Raw.{Raw}
use Rattle.om_state.specs.declared.step.Entry.{Entry}
use Rattle.om_state.specs.declared.step.Label.{Label}
use Rattle.om_state.specs.declared.step.Step.{Step}
use Rattle.om_state.specs.declared.step.Update.{Update}
use Rattle.om_state.specs.declared.step.Update.TheVariants.{Put}
use Rattle.om_state.specs.declared.value.Val.{Val}
use Rattle.om_state.specs.declared.value.Val.TheVariants as value
use Rattle.om_state.specs.Rules.{Rules, step_at}
use Rattle.om_state.specs.State.{State}
use Rattle.om_undo_history.specs.declared.history.History.{History}
use Rattle.om_undo_history.specs.declared.reply.StepReply.{StepReply}
use Rattle.om_undo_history.specs.declared.reply.StepReply.TheVariants.{Done}
use Rattle.om_undo_history.specs.Laws.{updates_of}
use Rattle.om_undo_history.specs.Pasts.{past_in}
use Rattle.om_undo_history.specs.Runs.{fault_of, label_of, state_after_step}
use Rattle.om_task.specs.declared.planned.Plan.{Plan}
use Rattle.om_task.specs.declared.planned.Plan.TheVariants.{Updates}
use Rattle.om_undo.specs.Machines.{IsPlan, MachineView, rules_for}
use Rattle.lab_graph.specs.declared.traced.Traced.{Traced}
use Rattle.lab_replay.specs.Manners.{manner_at}

-- ---- the number that a step puts

abbrev pub number_of_cell : Cell → Option ℤ
number_of_cell (cell.Int n) = Some n
number_of_cell cell.Unset = None
number_of_cell cell.Dead = None

abbrev pub number_of_value : Val → Option ℤ
number_of_value (value.Cell held) = number_of_cell held
number_of_value _ = None

-- the number that an update puts into a variable
abbrev pub number_of : Update → Option ℤ
number_of (Put v) = number_of_value v
number_of _ = None

-- the first number that one of these updates puts into a variable
abbrev pub first_number : List Update → Option ℤ
first_number [] = None
first_number (u ∷ us) = option_or (number_of u) (first_number us)

-- the first number that the step of a plan puts into a variable
abbrev pub number_by : Plan → Option ℤ
number_by (Updates change) = first_number change.updates
number_by _ = None

-- ---- what is said of it

-- a number behind a name with ` = ` between them, or the number alone
abbrev pub valued : List ℕ → ℤ → List ℕ
valued [] n = signed_decimal n
valued (c ∷ cs) n = (c ∷ cs) ++ (codes " = " ++ signed_decimal n)

pub record HasNumber (n : ℤ) (text : List ℕ) : Type 0 where
  pub name : List ℕ
  pub is : text ≡ valued name n

-- where a step met no fault and put a number, the text is that number, behind a name
abbrev pub TellsNumber : Option ℤ → Option Fault → List ℕ → Type 0
TellsNumber (Some n) None text = HasNumber n text
TellsNumber (Some n) (Some fault) text = Unit {0}
TellsNumber None fault text = Unit {0}

-- it is said of a label's step at a state whether its worker came to a fault, and how its instruction accesses
-- variables; if there was no fault, the value is the number that the step put
pub record IsSaidOf (program : Raw) (r : Rules) (s : State) (l : Label) (t : Traced) : Type 0 where
  pub is_fault : t.is_fault ≡ is_some (fault_of (updates_of (step_at r s l).outcome))
  pub value : TellsNumber (first_number (updates_of (step_at r s l).outcome))
      (fault_of (updates_of (step_at r s l).outcome)) t.value
  pub manner : t.manner ≡ manner_at program s l

-- this is said of the steps of entries that are made in turn from a state
abbrev pub AreSaidFrom : Raw → Rules → State → List Entry → List Traced → Type 0
AreSaidFrom program r s [] [] = Unit {0}
AreSaidFrom program r s (e ∷ es) (t ∷ ts) = IsSaidOf program r s (label_of e) t
    × AreSaidFrom program r (state_after_step r s (label_of e)) es ts
AreSaidFrom program r s _ _ = ⊥

-- this is said of the steps of entries, each at its place in a replay from the start of a machine's program
abbrev pub AreSaid : MachineView → List Entry → List Traced → Type 0
AreSaid m entries steps = AreSaidFrom m.program (rules_for m) (rules_for m).start entries steps

-- ---- one step that is made again

-- this is said of the step of an entry of a machine where a history stands
abbrev pub IsSaid : MachineView → History → Entry → Traced → Type 0
IsSaid m h e t = IsSaidOf m.program (rules_for m) (past_in h).state (label_of e) t

-- the fault that a reply tells
abbrev pub fault_in : StepReply → Option Fault
fault_in (Done serial line fault) = fault
fault_in _ = None

-- by whatever rules a plan of a step was made where a history stands: its worker came to this fault, or to none
abbrev pub IsFaultOf : History → Label → Plan → Option Fault → Type 0
IsFaultOf h l plan fault =
    (r : Rules) → IsPlan r h l plan → fault ≡ fault_of (updates_of (step_at r (past_in h).state l).outcome)

-- where it met no fault and put a number, the words have the number
abbrev pub Tells : Option ℤ → Option Fault → Vec ℕ Global → Type 0
Tells number fault text = TellsNumber number fault text.items
