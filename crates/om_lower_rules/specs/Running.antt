-- A frame that runs alone, instruction by instruction, and what its run says.
use Rattle.std.specs.Prelude.{◌≡◌, ℕ, zero, suc, ◌<◌, ◌≤◌, ℤ, pos, Bool, true, false, Option, None, Some, List, ◌∷◌}
use Rattle.om_code.specs.declared.frame.Operand.{Operand}
use Rattle.om_code.specs.declared.frame.Operand.TheVariants as operand
use Rattle.om_code.specs.declared.raw.Body.{Body}
use Rattle.om_code.specs.declared.raw.Raw.{Raw}
use Rattle.om_code.specs.Frames as frames
use Rattle.om_code.specs.Frames.{Frame, FrameTurn, Finished, Faulted, Stuck, frame_turn}
use Rattle.om_lower_rules.specs.Meaning as flows
use Rattle.om_lower_rules.specs.Meaning.{Flow, Broke, Continued, Failed, OutOfTurns}
use Rattle.om_lower_rules.specs.Worlds.{World, Outcome, Got, Faulty}
use Rattle.om_lower_rules.specs.Statements.{Jumps}

-- the frame at this place, with these operands, in this world; and the world of a frame
abbrev pub frame : ℕ → List Operand → World → Frame
frame p s w = record { place = p; operands = s; slots = w.slots; globals = w.globals; output = w.output }

abbrev pub world_of : Frame → World
world_of f = record { slots = f.slots; globals = f.globals; output = f.output }

abbrev pub on_from : FrameTurn → (Frame → FrameTurn) → FrameTurn
on_from (frames.Onward f) rest = rest f
on_from (frames.Returned v f) rest = frames.Returned v f
on_from (Finished v f) rest = Finished v f
on_from (Faulted x f) rest = Faulted x f
on_from Stuck rest = Stuck

-- at most n instructions
abbrev pub run : Raw → Body → ℕ → Frame → FrameTurn
run raw body zero f = frames.Onward f
run raw body (suc n) f = on_from (frame_turn raw body f) (run raw body n)

-- an int on the stack
abbrev pub with_int : ℤ → List Operand → List Operand
with_int v s = operand.Int v ∷ s

-- How a function ends, with a value or without. `main` ends the program. At its closing brace the value is 0
-- (C17 5.1.2.2.3p1). So it is at `return;`, which C17 6.8.6.4p1 forbids there: an own choice.
abbrev pub ended : (is_main : Bool) → Option ℤ → Frame → FrameTurn
ended true None f = Finished (pos 0) f
ended true (Some v) f = Finished v f
ended false None f = frames.Returned operand.NoValue f
ended false (Some v) f = frames.Returned (operand.Int v) f

-- from the one frame the run comes to the other: behind one instruction at least, or behind any number
pub record Leads (raw : Raw) (body : Body) (c d : Frame) : Type 0 where
  pub by : (k : ℕ) → (j : ℕ) × (k < j) × (run raw body j c ≡ run raw body k d)

pub record Comes (raw : Raw) (body : Body) (c d : Frame) : Type 0 where
  pub by : (k : ℕ) → (j : ℕ) × (k ≤ j) × (run raw body j c ≡ run raw body k d)

-- it ends like this, in this world
pub record Ends (raw : Raw) (body : Body) (c : Frame) (end : Frame → FrameTurn) (w : World) : Type 0 where
  pub turns : ℕ
  pub last : Frame
  pub over : run raw body turns c ≡ end last
  pub world : world_of last ≡ w

-- it leaves its value on these operands at q, or faults
abbrev pub Gives : Raw → Body → Frame → ℕ → List Operand → Outcome → Type 0
Gives raw body c q s (Got v w) = Leads raw body c (frame q (with_int v s) w)
Gives raw body c q s (Faulty f w) = Ends raw body c (Faulted f) w

-- it leaves these operands at q, or faults
abbrev pub Drops : Raw → Body → Frame → ℕ → List Operand → Outcome → Type 0
Drops raw body c q s (Got v w) = Leads raw body c (frame q s w)
Drops raw body c q s (Faulty f w) = Ends raw body c (Faulted f) w

-- it comes to where a jump goes, which goes somewhere
abbrev pub JumpsTo : Raw → Body → Frame → Option ℕ → List Operand → World → Type 0
JumpsTo raw body c None s w = ⊥
JumpsTo raw body c (Some to) s w = Comes raw body c (frame to s w)

-- it does what a statement does, which goes on at q; out of n turns, it goes on for n instructions
abbrev pub Does : Raw → Body → Bool → ℕ → Frame → ℕ → Jumps → List Operand → Flow → Type 0
Does raw body is_main n c q jumps s (flows.Onward w) = Comes raw body c (frame q s w)
Does raw body is_main n c q jumps s (Broke w) = JumpsTo raw body c jumps.over s w
Does raw body is_main n c q jumps s (Continued w) = JumpsTo raw body c jumps.next s w
Does raw body is_main n c q jumps s (flows.Returned v w) = Ends raw body c (ended is_main v) w
Does raw body is_main n c q jumps s (Failed f w) = Ends raw body c (Faulted f) w
Does raw body is_main n c q jumps s OutOfTurns =
    (j : ℕ) × (f : Frame) × (n ≤ j) × (run raw body j c ≡ frames.Onward f)
