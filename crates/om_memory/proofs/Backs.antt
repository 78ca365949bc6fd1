-- An inverse of a context's edit takes the stack back, and one of a stack's the control.
use Rattle.std.proofs.Common.{◌≡◌, refl}
use Rattle.std.specs.Box.{with_value}
use Rattle.om_memory.specs.declared.control.Stack.{Stack}
use Rattle.om_memory.specs.declared.control.Control.TheVariants as control
use Rattle.om_memory.specs.declared.control.Inverse.{Inverse}
use Rattle.om_memory.specs.declared.control.Inverse.TheVariants as inverse
use Rattle.om_memory.specs.Inverses.{turned_back, CanTurnBack, stack_back, CanStackBack, reverted, CanRevert}

pub turn_of_stack : (i : Inverse) (s : Stack) → CanTurnBack i s.top.value
    → stack_back i s ≡ record s { top = with_value s.top (turned_back i s.top.value) }
turn_of_stack inverse.Same s can = refl
turn_of_stack (inverse.Went x) s can = refl
turn_of_stack (inverse.BeganFrame x y) s can = refl
turn_of_stack (inverse.EndedFrame x) s can = refl
turn_of_stack (inverse.BeganContext x) s can = absurd can
turn_of_stack inverse.EndedContext s can = absurd can
turn_of_stack (inverse.Opened x) s can = refl
turn_of_stack inverse.Closed s can = refl
turn_of_stack (inverse.Replaced x) s can = refl
turn_of_stack inverse.CountedBirth s can = refl
turn_of_stack inverse.CountedRegion s can = refl
turn_of_stack inverse.CountedPhase s can = refl
turn_of_stack inverse.Failed s can = absurd can
turn_of_stack inverse.WasIdle s can = absurd can
turn_of_stack (inverse.Was x) s can = absurd can

pub can_turn_stack : (i : Inverse) (s : Stack) → CanTurnBack i s.top.value → CanStackBack i s
can_turn_stack inverse.Same s can = can
can_turn_stack (inverse.Went x) s can = can
can_turn_stack (inverse.BeganFrame x y) s can = can
can_turn_stack (inverse.EndedFrame x) s can = can
can_turn_stack (inverse.BeganContext x) s can = absurd can
can_turn_stack inverse.EndedContext s can = absurd can
can_turn_stack (inverse.Opened x) s can = can
can_turn_stack inverse.Closed s can = can
can_turn_stack (inverse.Replaced x) s can = can
can_turn_stack inverse.CountedBirth s can = can
can_turn_stack inverse.CountedRegion s can = can
can_turn_stack inverse.CountedPhase s can = can
can_turn_stack inverse.Failed s can = absurd can
can_turn_stack inverse.WasIdle s can = absurd can
can_turn_stack (inverse.Was x) s can = absurd can

pub stack_of_control : (i : Inverse) (s : Stack) → CanStackBack i s
    → reverted i (control.Running s) ≡ control.Running (stack_back i s)
stack_of_control inverse.Same s can = refl
stack_of_control (inverse.Went x) s can = refl
stack_of_control (inverse.BeganFrame x y) s can = refl
stack_of_control (inverse.EndedFrame x) s can = refl
stack_of_control (inverse.BeganContext x) s can = refl
stack_of_control inverse.EndedContext s can = refl
stack_of_control (inverse.Opened x) s can = refl
stack_of_control inverse.Closed s can = refl
stack_of_control (inverse.Replaced x) s can = refl
stack_of_control inverse.CountedBirth s can = refl
stack_of_control inverse.CountedRegion s can = refl
stack_of_control inverse.CountedPhase s can = refl
stack_of_control inverse.Failed s can = absurd can
stack_of_control inverse.WasIdle s can = absurd can
stack_of_control (inverse.Was x) s can = absurd can

pub can_stack_control : (i : Inverse) (s : Stack) → CanStackBack i s → CanRevert i (control.Running s)
can_stack_control inverse.Same s can = can
can_stack_control (inverse.Went x) s can = can
can_stack_control (inverse.BeganFrame x y) s can = can
can_stack_control (inverse.EndedFrame x) s can = can
can_stack_control (inverse.BeganContext x) s can = can
can_stack_control inverse.EndedContext s can = can
can_stack_control (inverse.Opened x) s can = can
can_stack_control inverse.Closed s can = can
can_stack_control (inverse.Replaced x) s can = can
can_stack_control inverse.CountedBirth s can = can
can_stack_control inverse.CountedRegion s can = can
can_stack_control inverse.CountedPhase s can = can
can_stack_control inverse.Failed s can = absurd can
can_stack_control inverse.WasIdle s can = absurd can
can_stack_control (inverse.Was x) s can = absurd can
