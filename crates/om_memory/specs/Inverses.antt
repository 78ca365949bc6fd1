-- What takes an edit back, as what it makes of a control that is changed in place.
use Rattle.std.specs.Prelude.{◌≡◌, Option, None, List, [], ◌∷◌, ◌-◌, ◌<◌, ◌≤◌, length}
use Rattle.std.specs.declared.boxed.Box.{Box}
use Rattle.std.specs.Box.{with_value}
use Rattle.std.specs.declared.alloc.Global.{Global}
use Rattle.om_code.specs.declared.frame.Operand.{Operand}
use Rattle.om_memory.specs.Tapes.{TapeView, unpushed, raised, swapped_up, exchanged}
use Rattle.om_memory.specs.declared.control.Frame.{Frame}
use Rattle.om_memory.specs.declared.control.Context.{Context}
use Rattle.om_memory.specs.declared.control.Stack.{Stack}
use Rattle.om_memory.specs.declared.control.Control.{Control}
use Rattle.om_memory.specs.declared.control.Control.TheVariants as control
use Rattle.om_memory.specs.declared.control.Passed.{Passed}
use Rattle.om_memory.specs.declared.control.Laid.{Laid}
use Rattle.om_memory.specs.declared.control.Laid.TheVariants.{Nothing, Pushed}
use Rattle.om_memory.specs.declared.control.Went.{Went}
use Rattle.om_memory.specs.declared.control.Inverse.{Inverse}
use Rattle.om_memory.specs.declared.control.Inverse.TheVariants as inverse
use Rattle.om_state.specs.declared.control.Edit.{Edit}
use Rattle.om_state.specs.declared.control.Edit.TheVariants as edit

-- the first item, else the other one
abbrev pub first_or : {T : Type 0} → T → List T → T
first_or x [] = x
first_or x (y ∷ ys) = y

-- where a push can be taken back, by what it lay over
pub record IsPushed {T : Type 0} (over : Option T) (t : TapeView T) : Type 0 where
  pub pushed : 0 < length t.items
  pub grown : over ≡ None → t.taken ≡ []

-- a frame that went to a place, and pushed nothing, is back
abbrev pub passed_back : Passed → Frame → Frame
passed_back p f = record f { next = p.from; operands = raised p.took f.operands }

-- the operands without one that was pushed
abbrev pub unlaid : Laid → TapeView Operand → TapeView Operand
unlaid Nothing t = t
unlaid (Pushed over) t = unpushed over t

abbrev pub CanUnlay : Laid → TapeView Operand → Type 0
CanUnlay Nothing t = Unit {0}
CanUnlay (Pushed over) t = IsPushed over t

-- a frame that went to a place is back
abbrev pub went_back : Went → Frame → Frame
went_back w f = record f { next = w.passed.from; operands = raised w.passed.took (unlaid w.laid f.operands) }

abbrev pub CanPassBack : Passed → Frame → Type 0
CanPassBack p f = p.took ≤ length f.operands.taken

abbrev pub CanGoBack : Went → Frame → Type 0
CanGoBack w f = CanUnlay w.laid f.operands × (w.passed.took ≤ length (unlaid w.laid f.operands).taken)

-- a context in which another frame runs
abbrev pub with_frame : Context → Frame → Context
with_frame c f = record c { frame = with_value c.frame f }

-- a frame that was pushed under the running one goes on, as before it began to wait
abbrev pub waited : Passed → Box Frame Global → Box Frame Global
waited p b = with_value b (passed_back p b.value)

-- a frame without the value that it was given
abbrev pub unvalued : Option Operand → Box Frame Global → Box Frame Global
unvalued over b = with_value b (record b.value { operands = unpushed over b.value.operands })

-- a context before an edit of it
abbrev pub turned_back : Inverse → Context → Context
turned_back (inverse.Went w) c = with_frame c (went_back w c.frame.value)
turned_back (inverse.BeganFrame p over) c = record c {
  frames = c.frames - 1;
  frame = waited p (first_or c.frame c.callers.items);
  callers = unpushed over c.callers;
}
turned_back (inverse.EndedFrame over) c = record c {
  frame = first_or c.frame c.callers.taken;
  callers = swapped_up (unvalued over c.frame) c.callers;
}
turned_back (inverse.Opened over) c = record c { constructs = unpushed over c.constructs }
turned_back inverse.Closed c = record c { constructs = raised 1 c.constructs }
turned_back (inverse.Replaced before) c = record c { constructs = exchanged before c.constructs }
turned_back inverse.CountedBirth c = record c { births = c.births - 1 }
turned_back inverse.CountedRegion c = record c { regions = c.regions - 1 }
turned_back inverse.CountedPhase c = record c { phase = c.phase - 1 }
turned_back _ c = c

-- where a context can be taken back so
abbrev pub CanTurnBack : Inverse → Context → Type 0
CanTurnBack inverse.Same c = Unit {0}
CanTurnBack (inverse.Went w) c = CanGoBack w c.frame.value
CanTurnBack (inverse.BeganFrame p over) c = IsPushed over c.callers × (0 < c.frames)
    × CanPassBack p (first_or c.frame c.callers.items).value
CanTurnBack (inverse.EndedFrame over) c = (0 < length c.callers.taken) × IsPushed over c.frame.value.operands
CanTurnBack (inverse.Opened over) c = IsPushed over c.constructs
CanTurnBack inverse.Closed c = 0 < length c.constructs.taken
CanTurnBack (inverse.Replaced before) c = 0 < length c.constructs.items
CanTurnBack inverse.CountedBirth c = 0 < c.births
CanTurnBack inverse.CountedRegion c = 0 < c.regions
CanTurnBack inverse.CountedPhase c = 0 < c.phase
CanTurnBack _ c = ⊥

-- whether an edit is of the running context
abbrev pub TurnsContext : Edit → Type 0
TurnsContext (edit.BeginContext context) = ⊥
TurnsContext edit.EndContext = ⊥
TurnsContext (edit.Fail fault) = ⊥
TurnsContext (edit.End value) = ⊥
TurnsContext _ = Unit {0}

-- whether an edit leaves a worker running on with its stack
abbrev pub StaysRunning : Edit → Type 0
StaysRunning edit.EndContext = ⊥
StaysRunning (edit.Fail fault) = ⊥
StaysRunning (edit.End value) = ⊥
StaysRunning _ = Unit {0}

-- a stack before an edit of it
abbrev pub stack_back : Inverse → Stack → Stack
stack_back (inverse.BeganContext over) s = record {
  top = first_or s.top s.below.items;
  below
      = unpushed over s.below;
}
stack_back inverse.EndedContext s = record { top = first_or s.top s.below.taken; below = swapped_up s.top s.below }
stack_back i s = record s { top = with_value s.top (turned_back i s.top.value) }

abbrev pub CanStackBack : Inverse → Stack → Type 0
CanStackBack (inverse.BeganContext over) s = IsPushed over s.below
CanStackBack inverse.EndedContext s = 0 < length s.below.taken
CanStackBack i s = CanTurnBack i s.top.value

-- a worker that met a fault runs again
abbrev pub unfaulted : Control → Control
unfaulted (control.Faulted fault s) = control.Running s
unfaulted c = c

-- a change of the stack of a worker that runs
abbrev pub with_running : (Stack → Stack) → Control → Control
with_running f (control.Running s) = control.Running (f s)
with_running f c = c

abbrev pub IfRunning : (Stack → Type 0) → Control → Type 0
IfRunning P (control.Running s) = P s
IfRunning P c = ⊥

abbrev pub IsFaulted : Control → Type 0
IsFaulted (control.Faulted fault s) = Unit {0}
IsFaulted c = ⊥

-- a control before an edit of it
abbrev pub reverted : Inverse → Control → Control
reverted inverse.Same c = c
reverted inverse.Failed c = unfaulted c
reverted inverse.WasIdle c = control.Idle
reverted (inverse.Was b) c = b.value
reverted i c = with_running (stack_back i) c

-- where a control can be taken back so
abbrev pub CanRevert : Inverse → Control → Type 0
CanRevert inverse.Same c = Unit {0}
CanRevert inverse.Failed c = IsFaulted c
CanRevert inverse.WasIdle c = Unit {0}
CanRevert (inverse.Was b) c = Unit {0}
CanRevert i c = IfRunning (CanStackBack i) c
