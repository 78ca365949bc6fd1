-- What every row keeps to: behind its edits the worker stands, and so does what it puts.
use Rattle.std.specs.Prelude.{◌⊎◌}
use Rattle.std.proofs.Common.{◌≡◌, subst, ℕ, arith, Bool, true, false, if◌then◌else◌, List, [], ◌∷◌, Option}
use Rattle.om_code.specs.declared.frame.Operand.{Operand}
use Rattle.om_code.specs.declared.raw.Raw.{Raw}
use Rattle.om_code.specs.Ways.{Way}
use Rattle.om_state.specs.declared.control.Context.{Context}
use Rattle.om_state.specs.declared.control.Frame.{Frame}
use Rattle.om_state.specs.declared.control.Stack.{Stack}
use Rattle.om_state.specs.declared.control.Control as controls
use Rattle.om_state.specs.declared.control.Control.TheVariants.{Idle, Running, Faulted, Ended}
use Rattle.om_state.specs.declared.control.Edit.{Edit}
use Rattle.om_state.specs.declared.control.Edit.TheVariants.{Go, BeginFrame, EndFrame, BeginContext, EndContext, Open}
use Rattle.om_state.specs.declared.control.Edit.TheVariants.{Close, Replace, CountBirth, CountRegion, CountPhase, Fail}
use Rattle.om_state.specs.declared.control.Edit.TheVariants.{End}
use Rattle.om_state.specs.declared.step.Update.{Update}
use Rattle.om_state.specs.declared.step.Update.TheVariants.{Put}
use Rattle.om_foot.specs.declared.footprint.Access.{Access}
use Rattle.om_foot.specs.declared.object.Obj.TheVariants as obj
use Rattle.om_state.specs.declared.value.Task as tasks
use Rattle.om_state.specs.declared.value.Val.{Val}
use Rattle.om_state.specs.declared.value.Val.TheVariants as value
use Rattle.om_state.specs.Edits.{changed_by, changed, edited, context_ended, value_given}
use Rattle.om_team_serial.specs.declared.row.Row.{Row}
use Rattle.om_team_serial.specs.declared.row.Row.TheVariants.{Goes}
use Rattle.om_team_serial.specs.Rows.{Asked}
use Rattle.om_team_serial.specs.Objects.{write}
use Rattle.om_soundness.specs.Standing.{Owned, AreWaiting, IsStandingContext, AreStanding, IsStandingControl}
use Rattle.om_soundness.specs.Standing.{IsStandingTask, IsNotReady, HasParent}
use Rattle.om_soundness.proofs.Updates.{AllPut}

-- an edit that leaves frames where they are, or begins a context that stands
abbrev pub Keeps : Raw → Owned → Edit → Type 0
Keeps program owned (Go to takes pushed) = ⊥
Keeps program owned (BeginFrame to takes body homes) = ⊥
Keeps program owned (BeginContext context) = IsStandingContext program owned context
Keeps program owned _ = Unit {0}

abbrev pub AllKeep : Raw → Owned → List Edit → Type 0
AllKeep program owned [] = Unit {0}
AllKeep program owned (edit ∷ edits) = Keeps program owned edit × AllKeep program owned edits

-- an update puts what stands wherever it is put: no task that is ready
abbrev pub StandsAnywhere : Raw → Owned → Val → Type 0
StandsAnywhere program owned (value.Control control) = IsStandingControl program owned control
StandsAnywhere program owned (value.Task t) = IsNotReady t
StandsAnywhere program owned _ = Unit {0}

abbrev pub AllPutStanding : Raw → Owned → List Update → Type 0
AllPutStanding program owned us = AllPut (StandsAnywhere program owned) us

abbrev pub RowStands : Raw → Owned → Stack → Row → Type 0
RowStands program owned stack (Goes edits us) =
    IsStandingControl program owned (changed edits (Running stack)) × AllPutStanding program owned us
RowStands program owned stack _ = Unit {0}

-- edits and updates that make a task of this name ready, and put what stands besides
pub record MakesTask (program : Raw) (owned : Owned) (c : controls.Control) (names : List Access) (edits : List Edit)
    (us : List Update) : Type 0 where
  pub name : List ℕ
  pub rest : List Access
  pub task : tasks.Task
  pub others : List Update
  pub first : names ≡ write (obj.Task name) ∷ rest
  pub puts : us ≡ Put (value.Task task) ∷ others
  pub named : HasParent name
  pub stands : IsStandingTask program owned task
  pub control : IsStandingControl program owned (changed edits c)
  pub besides : AllPutStanding program owned others

abbrev pub RowMakes : Raw → Owned → controls.Control → List Access → Row → Type 0
RowMakes program owned c names (Goes edits us) = MakesTask program owned c names edits us
RowMakes program owned c names _ = Unit {0}

-- what a row is that names these objects
abbrev pub RowBehind : Raw → Owned → Stack → List Access → Row → Type 0
RowBehind program owned stack names r = RowStands program owned stack r
    ⊎ RowMakes program owned (Running stack) names r

abbrev pub Behind : Raw → Owned → Stack → Asked → List Val → Type 0
Behind program owned stack a values = RowBehind program owned stack a.names (a.row values)

abbrev pub AskedStands : Raw → Owned → Stack → Asked → List Val → Type 0
AskedStands program owned stack a values = RowStands program owned stack (a.row values)

-- a stack stands that has gone on
abbrev pub Leads : Raw → Owned → Stack → ℕ → ℕ → Option Operand → Type 0
Leads program owned stack to takes pushed = IsStandingControl program owned (edited (Go to takes pushed) stack)

-- the frame that waits for a call's value has it
given_frame : (program : Raw) (owned : Owned) (v : Operand) (callers : List Frame) (c : Context)
    → AreWaiting program owned callers → IsStandingContext program owned c
    → IsStandingContext program owned (value_given v callers c)
given_frame program owned v [] c w h = h
given_frame program owned v (frame ∷ callers) c w h = record {
  frame =
      record {
        body = w.0.body;
        found = w.0.found;
        way = subst (Way program.picks w.0.body.code frame.next)
            (omega arith) w.0.way;
        homes = w.0.homes;
      };
  callers = w.1;
  member = h.member;
  named = h.named;
}

ended_stands : (program : Raw) (owned : Owned) (below : List Context) → AreStanding program owned below
    → IsStandingControl program owned (context_ended below)
ended_stands program owned [] h = tt
ended_stands program owned (c ∷ below) h = h

edit_stands : (program : Raw) (owned : Owned) (edit : Edit) (stack : Stack) → Keeps program owned edit
    → IsStandingControl program owned (Running stack) → IsStandingControl program owned (edited edit stack)
edit_stands program owned (Go to takes pushed) stack k h = absurd k
edit_stands program owned (BeginFrame to takes body homes) stack k h = absurd k
edit_stands program owned (EndFrame v) stack k h =
    (given_frame program owned v stack.top.callers stack.top h.0.callers h.0, h.1)
edit_stands program owned (BeginContext c) stack k h = (k, h)
edit_stands program owned EndContext stack k h = ended_stands program owned stack.below h.1
edit_stands program owned (Open c) stack k h = (record { frame = h.0.frame; callers = h.0.callers; member = h.0.member; named = h.0.named }, h.1)
edit_stands program owned Close stack k h = (record { frame = h.0.frame; callers = h.0.callers; member = h.0.member; named = h.0.named }, h.1)
edit_stands program owned (Replace c) stack k h = (record { frame = h.0.frame; callers = h.0.callers; member = h.0.member; named = h.0.named }, h.1)
edit_stands program owned CountBirth stack k h = (record { frame = h.0.frame; callers = h.0.callers; member = h.0.member; named = h.0.named }, h.1)
edit_stands program owned CountRegion stack k h = (record { frame = h.0.frame; callers = h.0.callers; member = h.0.member; named = h.0.named }, h.1)
edit_stands program owned CountPhase stack k h = (record { frame = h.0.frame; callers = h.0.callers; member = h.0.member; named = h.0.named }, h.1)
edit_stands program owned (Fail f) stack k h = h
edit_stands program owned (End v) stack k h = tt

control_stands : (program : Raw) (owned : Owned) (edit : Edit) (c : controls.Control) → Keeps program owned edit
    → IsStandingControl program owned c → IsStandingControl program owned (changed_by edit c)
control_stands program owned edit (Running stack) k h = edit_stands program owned edit stack k h
control_stands program owned edit (Faulted fault stack) k h = h
control_stands program owned edit (Ended result) k h = tt
control_stands program owned edit Idle k h = tt

-- a control that stands stands after such edits
pub changed_stands : (program : Raw) (owned : Owned) (edits : List Edit) (c : controls.Control)
    → AllKeep program owned edits → IsStandingControl program owned c
    → IsStandingControl program owned (changed edits c)
changed_stands program owned [] c k h = h
changed_stands program owned (edit ∷ edits) c k h =
    changed_stands program owned edits (changed_by edit c) k.1 (control_stands program owned edit c k.0 h)

pub if_row : (program : Raw) (owned : Owned) (stack : Stack) (b : Bool) (x y : Row) → RowStands program owned stack x
    → RowStands program owned stack y → RowStands program owned stack (if b then x else y)
if_row program owned stack true x y h k = h
if_row program owned stack false x y h k = k

pub if_asked : (program : Raw) (owned : Owned) (stack : Stack) (b : Bool) (x y : Asked) (values : List Val)
    → AskedStands program owned stack x values → AskedStands program owned stack y values
    → AskedStands program owned stack (if b then x else y) values
if_asked program owned stack true x y values h k = h
if_asked program owned stack false x y values h k = k
