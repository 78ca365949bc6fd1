-- The fault that a worker comes to, and what of a control a walk over edits follows, to find it.
use Rattle.std.specs.Prelude.{ℕ, zero, suc, ◌+◌, ◌<◌, ◌^◌, Option, None, Some, List, [], ◌∷◌, length}
use Rattle.om_code.specs.declared.frame.Fault.{Fault}
use Rattle.om_state.specs.declared.control.Control.{Control}
use Rattle.om_state.specs.declared.control.Control.TheVariants.{Idle, Running, Faulted, Ended}
use Rattle.om_state.specs.declared.control.Edit.{Edit}
use Rattle.om_state.specs.declared.control.Edit.TheVariants as edit
use Rattle.om_memory.specs.declared.edit.Outlook.{Outlook}
use Rattle.om_memory.specs.declared.edit.Outlook.TheVariants.{Runs, Rests}

-- the fault that a worker met, if it did
abbrev pub fault_in : Control → Option Fault
fault_in (Faulted fault stack) = Some fault
fault_in Idle = None
fault_in (Running stack) = None
fault_in (Ended value) = None

-- the same of an outlook
abbrev pub fault_ahead : Outlook → Option Fault
fault_ahead (Runs below) = None
fault_ahead (Rests fault) = fault

-- how many contexts lie below the one that runs, or with which fault the worker rests
abbrev pub outlook_of : Control → Outlook
outlook_of Idle = Rests None
outlook_of (Running stack) = Runs (length stack.below)
outlook_of (Faulted fault stack) = Rests (Some fault)
outlook_of (Ended value) = Rests None

-- one context less
abbrev pub below_ended : ℕ → Outlook
below_ended zero = Rests None
below_ended (suc below) = Runs below

-- the outlook after an edit of a worker that runs
abbrev pub ahead : Edit → ℕ → Outlook
ahead (edit.BeginContext context) below = Runs (suc below)
ahead edit.EndContext below = below_ended below
ahead (edit.Fail fault) below = Rests (Some fault)
ahead (edit.End value) below = Rests None
ahead (edit.Go to takes pushed) below = Runs below
ahead (edit.BeginFrame to takes body homes) below = Runs below
ahead (edit.EndFrame value) below = Runs below
ahead (edit.Open construct) below = Runs below
ahead edit.Close below = Runs below
ahead (edit.Replace construct) below = Runs below
ahead edit.CountBirth below = Runs below
ahead edit.CountRegion below = Runs below
ahead edit.CountPhase below = Runs below

abbrev pub outlook_after : Edit → Outlook → Outlook
outlook_after e (Runs below) = ahead e below
outlook_after e (Rests fault) = Rests fault

abbrev pub outlook_behind : List Edit → Outlook → Outlook
outlook_behind [] o = o
outlook_behind (e ∷ es) o = outlook_behind es (outlook_after e o)

-- a walk that has made so many edits began no more contexts
abbrev pub IsLow : ℕ → Outlook → Type 0
IsLow made (Runs below) = below < 2 ^ 64 + made
IsLow made (Rests fault) = Unit {0}
