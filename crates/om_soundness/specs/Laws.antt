-- What is true of the runs of valid programs.
use Rattle.std.specs.Prelude.{◌≡◌, ℕ, ◌≤◌, List, ◌∷◌, ◌++◌, Some, length}
use Rattle.om_foot.specs.declared.object.Obj.TheVariants as obj
use Rattle.om_code.specs.declared.instruction.Instr.{Instr}
use Rattle.om_code.specs.declared.raw.Raw.{Raw}
use Rattle.om_code.specs.Places.{instruction_at, slots_of}
use Rattle.om_code.specs.Validity.{IsValid, NamesKnown}
use Rattle.om_code.specs.Ways.{pops}
use Rattle.om_state.specs.declared.control.Control.TheVariants.{Running}
use Rattle.om_state.specs.declared.control.Stack.{Stack}
use Rattle.om_state.specs.declared.step.Label.{Label}
use Rattle.om_state.specs.declared.value.Val.TheVariants.{Control}
use Rattle.om_state.specs.declared.step.Outcome.TheVariants.{Ended}
use Rattle.om_state.specs.Rules.{step_at, next_state, replay}
use Rattle.om_state.specs.State.{State}
use Rattle.om_task.specs.Rules.{rules_of, start_of}
use Rattle.om_soundness.specs.Ints.{IsOfInts, AreFew, HasInts}
use Rattle.om_soundness.specs.Reasons.{MayLack}
use Rattle.om_soundness.specs.Running.{HasRun}
use Rattle.om_soundness.specs.Standing.{Owned, FitHomes, IsMember, HasParent, IsStanding}

-- a valid program stands where it starts
abbrev pub StartStands : Type 0
StartStands = (program : Raw) (workers : ℕ) (ls : List Label) → IsValid program
    → IsStanding program (HasRun program workers ls) (start_of program workers)

-- each step of a run of a valid program leads from a state that stands to one that stands
abbrev pub StepsStand : Type 0
StepsStand = (program : Raw) (workers : ℕ) (ls before after : List Label) (l : Label) (s t : State) → IsValid program
    → 1 ≤ workers → before ++ l ∷ after ≡ ls → replay (rules_of program workers) before ≡ Some s
    → IsStanding program (HasRun program workers ls) s → next_state (rules_of program workers) s l ≡ Some t
    → IsStanding program (HasRun program workers ls) t

-- so each state of its runs stands
abbrev pub RunsStand : Type 0
RunsStand = (program : Raw) (workers : ℕ) (ls : List Label) (s : State) → IsValid program → 1 ≤ workers
    → replay (rules_of program workers) ls ≡ Some s → IsStanding program (HasRun program workers ls) s

-- what the next instruction of a stack needs: itself, its operands, all that it names, a home for each slot, a thread of
-- its team, and a task whose name has a number
pub record HasItsNeeds (program : Raw) (owned : Owned) (stack : Stack) : Type 0 where
  pub instruction : Instr
  pub there : instruction_at program stack.top.frame.body stack.top.frame.next ≡ Some instruction
  pub operands : pops instruction ≤ length stack.top.frame.operands
  pub names : NamesKnown program (slots_of program stack.top.frame.body) instruction
  pub homes : FitHomes owned (slots_of program stack.top.frame.body) stack.top.frame.homes
  pub member : IsMember stack.top.team
  pub named : HasParent stack.top.task

-- in each state of its runs, each worker that runs has what its next instruction needs
abbrev pub WorkersHaveNeeds : Type 0
WorkersHaveNeeds = (program : Raw) (workers : ℕ) (ls : List Label) (s : State) (worker : ℕ) (stack : Stack)
    → IsValid program → 1 ≤ workers → replay (rules_of program workers) ls ≡ Some s
    → s (obj.Control worker) ≡ Control (Running stack) → HasItsNeeds program (HasRun program workers ls) stack

-- a program of ints has ints where it starts
abbrev pub StartHasInts : Type 0
StartHasInts = (program : Raw) (workers : ℕ) → IsOfInts program → HasInts (start_of program workers)

-- each of its steps leads from a state that has ints to one that has ints
abbrev pub StepsKeepInts : Type 0
StepsKeepInts = (program : Raw) (workers : ℕ) (l : Label) (s t : State) → IsOfInts program → AreFew workers
    → HasInts s → next_state (rules_of program workers) s l ≡ Some t → HasInts t

-- so each state of its runs has ints
abbrev pub RunsHaveInts : Type 0
RunsHaveInts = (program : Raw) (workers : ℕ) (ls : List Label) (s : State) → IsOfInts program → AreFew workers
    → replay (rules_of program workers) ls ≡ Some s → HasInts s

-- and the step of a worker that runs ends only where its instruction may lack something else
abbrev pub LacksHaveReasons : Type 0
LacksHaveReasons = (program : Raw) (workers : ℕ) (ls : List Label) (s : State) (l : Label) (stack : Stack)
    (instr : Instr) → IsValid program → 1 ≤ workers → replay (rules_of program workers) ls ≡ Some s
    → s (obj.Control l.worker) ≡ Control (Running stack)
    → instruction_at program stack.top.frame.body stack.top.frame.next ≡ Some instr
    → (step_at (rules_of program workers) s l).outcome ≡ Ended → MayLack program stack instr
