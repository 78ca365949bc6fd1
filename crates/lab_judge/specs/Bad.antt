-- What is bad about where a machine stands.
use denote.Ref.{Bor}
use Rattle.std.specs.Prelude.{option_copied}
use Rattle.std.specs.Prelude.{◌≡◌, ◌≢◌, ◌<◌, ℕ, true, false, cond, List, Option, None, Some, IsSomeAnd}
use Rattle.om_state.specs.declared.control.Control as controls
use Rattle.om_state.specs.declared.control.Control.TheVariants as control
use Rattle.om_state.specs.Values.{control_in, bytes_in}
use Rattle.om_code.specs.declared.frame.Fault.{Fault}
use Rattle.om_foot.specs.declared.object.Obj.TheVariants as object
use Rattle.lab_judge.specs.declared.judge.Badness.{Badness}
use Rattle.lab_judge.specs.declared.judge.Badness.TheVariants as badness
use Rattle.lab_judge.specs.declared.judge.Standard.{Standard}
use Rattle.lab_judge.specs.declared.judge.Standard.TheVariants as standard
use Rattle.lab_judge.specs.declared.outcome.Alone.{Alone}
use Rattle.lab_judge.specs.declared.outcome.End.{End}
use Rattle.lab_judge.specs.Texts.{text_in}
use Rattle.om_undo.specs.Machines.{MachineView, state_in}
use Rattle.om_shell_debugger.specs.Looks.{line_at}
use Rattle.om_shell_debugger.specs.Runs.{has_ended, move_of}

-- what a worker is doing
abbrev pub control_of : MachineView → ℕ → controls.Control
control_of m worker = control_in (state_in m (object.Control worker))

-- what the program printed
abbrev pub output_of : MachineView → List ℕ
output_of m = bytes_in (state_in m object.Output)

-- the fault that a worker met, if it did
abbrev pub fault_of : controls.Control → Option Fault
fault_of (control.Faulted fault stack) = Some fault
fault_of _ = None

-- the initial task has ended, and something else was printed than is wanted
pub record PrintsOther (m : MachineView) (wanted : List ℕ) : Type 0 where
  pub ended : has_ended (control_of m 0) ≡ true
  pub other : output_of m ≢ wanted

-- this worker met this fault, at an instruction of this line
pub record IsFaulted (m : MachineView) (fault : Fault) (worker line : ℕ) : Type 0 where
  pub is_worker : worker < m.workers
  pub met : fault_of (control_of m worker) ≡ Some fault
  pub line_is : line ≡ line_at m worker

-- no worker met a fault
abbrev pub NoneFaulted : MachineView → Type 0
NoneFaulted m = (worker : ℕ) → worker < m.workers → fault_of (control_of m worker) ≡ None

-- no worker has a move
abbrev pub NoneMoves : MachineView → Type 0
NoneMoves m = (worker : ℕ) → worker < m.workers → move_of m worker ≡ None

-- the initial task has not ended, and no worker has a move
pub record IsStuck (m : MachineView) : Type 0 where
  pub not_ended : has_ended (control_of m 0) ≡ false
  pub no_move : NoneMoves m

-- this is bad about where a machine stands; where it is not known what is wanted, no output is
abbrev pub IsBad : MachineView → Option (List ℕ) → Badness → Type 0
IsBad m wanted badness.Output = IsSomeAnd wanted (PrintsOther m)
IsBad m wanted (badness.Fault fault worker line) = IsFaulted m fault worker line
IsBad m wanted badness.Stuck = IsStuck m

-- nothing is bad there
abbrev pub NothingIsBad : MachineView → Option (List ℕ) → Type 0
NothingIsBad m wanted = (why : Badness) → ¬ IsBad m wanted why

-- this is bad there, or nothing is
abbrev pub IsJudged : MachineView → Option (List ℕ) → Option Badness → Type 0
IsJudged m wanted (Some why) = IsBad m wanted why
IsJudged m wanted None = NothingIsBad m wanted

-- this was printed where a machine stands, and this is bad there
pub record IsEnd (m : MachineView) (wanted : Option (List ℕ)) (output : List ℕ) (why : Badness) : Type 0 where
  pub printed : output ≡ output_of m
  pub bad : IsBad m wanted why

-- what was printed and what is bad where a session came to its end; None says that nothing is bad there
abbrev pub EndsWith : MachineView → Option (List ℕ) → Option End → Type 0
EndsWith m wanted (Some end) = IsEnd m wanted end.output.items end.why
EndsWith m wanted None = NothingIsBad m wanted

-- what a program has to print, where that is known: what is expected, else what it printed where it ended
abbrev pub wanted_by : Option (List ℕ) → MachineView → Option (List ℕ)
wanted_by (Some text) m = Some text
wanted_by None m = cond (has_ended (control_of m 0)) (Some (output_of m)) None

-- where that is from: it was told, or it is what was printed there
abbrev pub standard_by : Option (List ℕ) → Standard
standard_by (Some text) = standard.Told
standard_by None = standard.Run

-- what a program has to print, where that is known; what is expected is lent
abbrev pub due_at : Option (Bor (List ℕ)) → MachineView → Option (List ℕ)
due_at expected m = wanted_by (option_copied expected) m

-- what a program has to print, by the session in which `run` makes all steps
abbrev pub due : Alone → Option (List ℕ)
due alone = text_in alone.wanted.text
