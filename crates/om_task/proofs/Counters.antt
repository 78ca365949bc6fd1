-- Edits count up by one each, and have room where the counters are low.
use Rattle.std.proofs.Common.{ℕ, ◌+◌, ◌≤◌, ◌<◌, ◌^◌, List, [], ◌∷◌, arith}
use Rattle.om_code.specs.declared.frame.Operand.{Operand}
use Rattle.om_state.specs.declared.control.Context.{Context}
use Rattle.om_state.specs.declared.control.Frame.{Frame}
use Rattle.om_state.specs.declared.control.Stack.{Stack}
use Rattle.om_state.specs.declared.control.Control as controls
use Rattle.om_state.specs.declared.control.Control.TheVariants.{Idle, Running, Faulted, Ended}
use Rattle.om_state.specs.declared.control.Edit.{Edit}
use Rattle.om_state.specs.declared.control.Edit.TheVariants.{Go, BeginFrame, EndFrame, BeginContext, EndContext, Open}
use Rattle.om_state.specs.declared.control.Edit.TheVariants.{Close, Replace, CountBirth, CountRegion, CountPhase, Fail}
use Rattle.om_state.specs.declared.control.Edit.TheVariants.{End}
use Rattle.om_state.specs.Edits.{changed_by, changed, edited, HasRoom, HaveRoom, context_ended, value_given}
use Rattle.om_team.specs.Counters.{IsWithin, AreWithin, ControlWithin}
use Rattle.om_task.proofs.Bounds.{counted, counts, BeginsWithin, BeginWithin}

pub context_more : (n m : ℕ) (c : Context) → n ≤ m → IsWithin n c → IsWithin m c
context_more n m c h w = record {
  births = omega (arith, h, w.births);
  regions = omega (arith, h, w.regions);
  phase = omega (arith, h, w.phase);
  frames = omega (arith, h, w.frames);
}

pub contexts_more : (n m : ℕ) (cs : List Context) → n ≤ m → AreWithin n cs → AreWithin m cs
contexts_more n m [] h w = tt
contexts_more n m (c ∷ cs) h w = (context_more n m c h w.0, contexts_more n m cs h w.1)

pub control_more : (n m : ℕ) (c : controls.Control) → n ≤ m → ControlWithin n c → ControlWithin m c
control_more n m (Running stack) h w = (context_more n m stack.top h w.0, contexts_more n m stack.below h w.1)
control_more n m (Faulted fault stack) h w = tt
control_more n m (Ended result) h w = tt
control_more n m Idle h w = tt

begin_more : (n m : ℕ) (edits : List Edit) → n ≤ m → BeginWithin n edits → BeginWithin m edits
begin_more n m [] h w = tt
begin_more n m (BeginContext c ∷ edits) h w = (context_more n m c h w.0, begin_more n m edits h w.1)
begin_more n m (Go to takes pushed ∷ edits) h w = (tt, begin_more n m edits h w.1)
begin_more n m (BeginFrame to takes body homes ∷ edits) h w = (tt, begin_more n m edits h w.1)
begin_more n m (EndFrame v ∷ edits) h w = (tt, begin_more n m edits h w.1)
begin_more n m (EndContext ∷ edits) h w = (tt, begin_more n m edits h w.1)
begin_more n m (Open c ∷ edits) h w = (tt, begin_more n m edits h w.1)
begin_more n m (Close ∷ edits) h w = (tt, begin_more n m edits h w.1)
begin_more n m (Replace c ∷ edits) h w = (tt, begin_more n m edits h w.1)
begin_more n m (CountBirth ∷ edits) h w = (tt, begin_more n m edits h w.1)
begin_more n m (CountRegion ∷ edits) h w = (tt, begin_more n m edits h w.1)
begin_more n m (CountPhase ∷ edits) h w = (tt, begin_more n m edits h w.1)
begin_more n m (Fail f ∷ edits) h w = (tt, begin_more n m edits h w.1)
begin_more n m (End v ∷ edits) h w = (tt, begin_more n m edits h w.1)

ended_within : (n : ℕ) (below : List Context) → AreWithin n below → ControlWithin n (context_ended below)
ended_within n [] w = tt
ended_within n (c ∷ below) w = w

given_within : (n : ℕ) (v : Operand) (callers : List Frame) (c : Context) → IsWithin n c
    → IsWithin n (value_given v callers c)
given_within n v [] c w = w
given_within n v (f ∷ callers) c w = record {
  births = w.births;
  regions = w.regions;
  phase = w.phase;
  frames = w.frames;
}

-- a stack after an edit has counted as much more as the edit counts
stack_within : (n : ℕ) (edit : Edit) (stack : Stack) → BeginsWithin n edit → ControlWithin n (Running stack)
    → ControlWithin (n + counted edit) (edited edit stack)
stack_within n (Go to takes pushed) stack b w = control_more n (n + 0) (edited (Go to takes pushed) stack)
    (omega arith) (record { births = w.0.births; regions = w.0.regions; phase = w.0.phase; frames = w.0.frames }, w.1)
stack_within n (BeginFrame to takes body homes) stack b w = (
  record {
    births = omega (arith, w.0.births);
    regions = omega (arith, w.0.regions);
    phase = omega
        (arith, w.0.phase);
    frames = omega (arith, w.0.frames);
  },
  contexts_more n (n + 1) stack.below (omega arith) w.1,
)
stack_within n (EndFrame v) stack b w = control_more n (n + 0) (edited (EndFrame v) stack) (omega arith)
    (given_within n v stack.top.callers stack.top w.0, w.1)
stack_within n (BeginContext c) stack b w = control_more n (n + 0) (edited (BeginContext c) stack) (omega arith) (b, w)
stack_within n EndContext stack b w = control_more n (n + 0) (context_ended stack.below) (omega arith)
    (ended_within n stack.below w.1)
stack_within n (Open c) stack b w = control_more n (n + 0) (edited (Open c) stack) (omega arith)
    (record { births = w.0.births; regions = w.0.regions; phase = w.0.phase; frames = w.0.frames }, w.1)
stack_within n Close stack b w = control_more n (n + 0) (edited Close stack) (omega arith)
    (record { births = w.0.births; regions = w.0.regions; phase = w.0.phase; frames = w.0.frames }, w.1)
stack_within n (Replace c) stack b w = control_more n (n + 0) (edited (Replace c) stack) (omega arith)
    (record { births = w.0.births; regions = w.0.regions; phase = w.0.phase; frames = w.0.frames }, w.1)
stack_within n CountBirth stack b w = (
  record {
    births = omega (arith, w.0.births);
    regions = omega (arith, w.0.regions);
    phase = omega
        (arith, w.0.phase);
    frames = omega (arith, w.0.frames);
  },
  contexts_more n (n + 1) stack.below (omega arith) w.1,
)
stack_within n CountRegion stack b w = (
  record {
    births = omega (arith, w.0.births);
    regions = omega (arith, w.0.regions);
    phase = omega
        (arith, w.0.phase);
    frames = omega (arith, w.0.frames);
  },
  contexts_more n (n + 1) stack.below (omega arith) w.1,
)
stack_within n CountPhase stack b w = (
  record {
    births = omega (arith, w.0.births);
    regions = omega (arith, w.0.regions);
    phase = omega
        (arith, w.0.phase);
    frames = omega (arith, w.0.frames);
  },
  contexts_more n (n + 1) stack.below (omega arith) w.1,
)
stack_within n (Fail f) stack b w = tt
stack_within n (End v) stack b w = tt

edit_within : (n : ℕ) (edit : Edit) (c : controls.Control) → BeginsWithin n edit → ControlWithin n c
    → ControlWithin (n + counted edit) (changed_by edit c)
edit_within n edit (Running stack) b w = stack_within n edit stack b w
edit_within n edit (Faulted fault stack) b w = tt
edit_within n edit (Ended result) b w = tt
edit_within n edit Idle b w = tt

-- a control after edits
pub changed_within : (n : ℕ) (edits : List Edit) (c : controls.Control) → BeginWithin n edits → ControlWithin n c
    → ControlWithin (n + counts edits) (changed edits c)
changed_within n [] c b w = control_more n (n + 0) c (omega arith) w
changed_within n (edit ∷ edits) c b w =
    control_more (n + counted edit + counts edits) (n + (counted edit + counts edits))
    (changed edits (changed_by edit c)) (omega arith)
    (changed_within (n + counted edit) edits (changed_by edit c) (begin_more n (n + counted edit) edits
    (omega arith) b.1) (edit_within n edit c b.0 w))

has_room : (n : ℕ) (edit : Edit) (c : controls.Control) → ControlWithin n c → n + counted edit + 1 < 2 ^ 64
    → HasRoom edit c
has_room n edit Idle w h = tt
has_room n edit (Ended result) w h = tt
has_room n edit (Faulted fault stack) w h = tt
has_room n (BeginFrame to takes body homes) (Running stack) w h = omega (arith, h, w.0.frames)
has_room n CountBirth (Running stack) w h = omega (arith, h, w.0.births)
has_room n CountRegion (Running stack) w h = omega (arith, h, w.0.regions)
has_room n CountPhase (Running stack) w h = omega (arith, h, w.0.phase)
has_room n (Go to takes pushed) (Running stack) w h = tt
has_room n (EndFrame v) (Running stack) w h = tt
has_room n (BeginContext c) (Running stack) w h = tt
has_room n EndContext (Running stack) w h = tt
has_room n (Open c) (Running stack) w h = tt
has_room n Close (Running stack) w h = tt
has_room n (Replace c) (Running stack) w h = tt
has_room n (Fail f) (Running stack) w h = tt
has_room n (End v) (Running stack) w h = tt

-- edits have room at counters that are low enough
pub have_room : (n : ℕ) (edits : List Edit) (c : controls.Control) → BeginWithin n edits → ControlWithin n c
    → n + counts edits + 1 < 2 ^ 64 → HaveRoom edits c
have_room n [] c b w h = tt
have_room n (edit ∷ edits) c b w h = (
  has_room n edit c w (omega (arith, h)),
  have_room (n + counted edit) edits (changed_by edit c)
      (begin_more n (n + counted edit) edits (omega arith) b.1) (edit_within n edit c b.0 w) (omega (arith, h)),
)
