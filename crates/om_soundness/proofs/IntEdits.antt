-- What every row keeps to for ints: it pushes, opens and puts none but ints, and so a control and a state have ints
-- behind it.
use Rattle.std.proofs.Common.{◌≡◌, refl, Bool, true, false, if◌then◌else◌, List, [], ◌∷◌, None, drop}
use Rattle.std.specs.Prelude.{All, IfSome}
use Rattle.std.proofs.lemmas.List.Elements.{All-nil, All-cons, All-head, All-tail, All-drop}
use Rattle.om_foot.specs.declared.footprint.Access.{Access}
use Rattle.om_code.specs.declared.frame.Operand.{Operand}
use Rattle.om_state.specs.declared.control.Context.{Context}
use Rattle.om_state.specs.declared.control.Control as controls
use Rattle.om_state.specs.declared.control.Control.TheVariants.{Idle, Running, Faulted, Ended}
use Rattle.om_state.specs.declared.control.Frame.{Frame}
use Rattle.om_state.specs.declared.control.Stack.{Stack}
use Rattle.om_state.specs.declared.control.Edit.{Edit}
use Rattle.om_state.specs.declared.control.Edit.TheVariants.{Go, BeginFrame, EndFrame, BeginContext, EndContext, Open}
use Rattle.om_state.specs.declared.control.Edit.TheVariants.{Close, Replace, CountBirth, CountRegion, CountPhase, Fail}
use Rattle.om_state.specs.declared.control.Edit.TheVariants.{End}
use Rattle.om_state.specs.declared.step.Update.{Update}
use Rattle.om_state.specs.declared.value.Val.{Val}
use Rattle.om_state.specs.Edits.{frame_at, value_given, context_ended, edited, changed_by, changed}
use Rattle.om_state.specs.State.{State, updated}
use Rattle.om_team_serial.specs.declared.row.Row.{Row}
use Rattle.om_team_serial.specs.declared.row.Row.TheVariants.{Goes}
use Rattle.om_team_serial.specs.Rows.{Asked}
use Rattle.om_soundness.specs.Ints.{IsIntOperand, FrameHasInts, ConstructHasInts, ContextHasInts, StackHasInts}
use Rattle.om_soundness.specs.Ints.{ControlHasInts, ValueHasInts, HasInts}
use Rattle.om_soundness.proofs.IntValues.{moved}
use Rattle.om_soundness.proofs.Updates.{IsOfAll, AllPut, updated_at}

abbrev pub EditHasInts : Edit → Type 0
EditHasInts (Go to takes pushed) = IfSome pushed IsIntOperand
EditHasInts (EndFrame v) = IsIntOperand v
EditHasInts (BeginContext context) = ContextHasInts context
EditHasInts (Open construct) = ConstructHasInts construct
EditHasInts (Replace construct) = ConstructHasInts construct
EditHasInts _ = Unit {0}

abbrev pub EditsHaveInts : List Edit → Type 0
EditsHaveInts [] = Unit {0}
EditsHaveInts (edit ∷ edits) = EditHasInts edit × EditsHaveInts edits

abbrev pub UpdatesHaveInts : List Update → Type 0
UpdatesHaveInts us = AllPut ValueHasInts us

abbrev pub RowHasInts : Row → Type 0
RowHasInts (Goes edits us) = EditsHaveInts edits × UpdatesHaveInts us
RowHasInts _ = Unit {0}

abbrev pub AskedHasInts : Asked → List Val → Type 0
AskedHasInts a values = RowHasInts (a.row values)

pub if_row : (b : Bool) (x y : Row) → RowHasInts x → RowHasInts y → RowHasInts (if b then x else y)
if_row true x y h k = h
if_row false x y h k = k

pub if_asked : (b : Bool) (x y : Asked) (values : List Val) → (b ≡ true → AskedHasInts x values)
    → AskedHasInts y values → AskedHasInts (if b then x else y) values
if_asked true x y values h k = h refl
if_asked false x y values h k = k

-- ---- controls

-- the frame that waits for a call's value has it
given : (v : Operand) (callers : List Frame) (c : Context) → IsIntOperand v → All FrameHasInts callers
    → ContextHasInts c → ContextHasInts (value_given v callers c)
given v [] c p w h = h
given v (frame ∷ callers) c p w h = (
  All-cons IsIntOperand v frame.operands p (All-head FrameHasInts frame callers w),
  All-tail FrameHasInts frame callers w,
  h.2,
  h.3,
)

ended : (below : List Context) → All ContextHasInts below → ControlHasInts (context_ended below)
ended [] h = tt
ended (c ∷ below) h = (All-head ContextHasInts c below h, All-tail ContextHasInts c below h)

edit_ints : (edit : Edit) (stack : Stack) → EditHasInts edit → StackHasInts stack → ControlHasInts (edited edit stack)
edit_ints (Go to takes pushed) stack k h =
    ((moved takes pushed stack.top.frame.operands k h.0.0, h.0.1, h.0.2, h.0.3), h.1)
edit_ints (BeginFrame to takes body homes) stack k h = (
  (
    All-nil IsIntOperand,
    All-cons FrameHasInts (frame_at to takes None stack.top.frame) stack.top.callers
        (moved takes None stack.top.frame.operands tt h.0.0) h.0.1,
    h.0.2,
    h.0.3,
  ),
  h.1,
)
edit_ints (EndFrame v) stack k h = (given v stack.top.callers stack.top k h.0.1 h.0, h.1)
edit_ints (BeginContext c) stack k h = (k, All-cons ContextHasInts stack.top stack.below h.0 h.1)
edit_ints EndContext stack k h = ended stack.below h.1
edit_ints (Open c) stack k h =
    ((h.0.0, h.0.1, All-cons ConstructHasInts c stack.top.constructs k h.0.2, h.0.3), h.1)
edit_ints Close stack k h = ((h.0.0, h.0.1, All-drop ConstructHasInts 1 stack.top.constructs h.0.2, h.0.3), h.1)
edit_ints (Replace c) stack k h = (
  (
    h.0.0,
    h.0.1,
    All-cons ConstructHasInts c (drop 1 stack.top.constructs) k
        (All-drop ConstructHasInts 1 stack.top.constructs h.0.2),
    h.0.3,
  ),
  h.1,
)
edit_ints CountBirth stack k h = h
edit_ints CountRegion stack k h = h
edit_ints CountPhase stack k h = h
edit_ints (Fail f) stack k h = h
edit_ints (End v) stack k h = tt

control_ints : (edit : Edit) (c : controls.Control) → EditHasInts edit → ControlHasInts c
    → ControlHasInts (changed_by edit c)
control_ints edit (Running stack) k h = edit_ints edit stack k h
control_ints edit (Faulted fault stack) k h = h
control_ints edit (Ended result) k h = tt
control_ints edit Idle k h = tt

pub changed_ints : (edits : List Edit) (c : controls.Control) → EditsHaveInts edits → ControlHasInts c
    → ControlHasInts (changed edits c)
changed_ints [] c k h = h
changed_ints (edit ∷ edits) c k h = changed_ints edits (changed_by edit c) k.1 (control_ints edit c k.0 h)

-- ---- states

of_all : IsOfAll ValueHasInts
of_all = record { counts = λ n. tt; outputs = λ bytes. tt; events = λ records. tt }

pub updated_ints : (accesses : List Access) (us : List Update) (s : State) → UpdatesHaveInts us → HasInts s
    → HasInts (updated accesses us s)
updated_ints accesses us s p h = λ q. updated_at ValueHasInts of_all accesses us s q p (h q)
