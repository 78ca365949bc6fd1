-- What the row of an instruction relies on.
use Rattle.std.specs.Prelude.{◌+◌, ◌<◌, ◌≤◌, ◌^◌, length}
use Rattle.om_code.specs.declared.instruction.Instr.{Instr}
use Rattle.om_code.specs.declared.raw.Raw.{Raw}
use Rattle.om_code.specs.Places.{slots_of}
use Rattle.om_code.specs.Validity.{NamesKnown}
use Rattle.om_state.specs.declared.control.Stack.{Stack}

-- what the instruction names exists, and the numbers that it counts up have room
pub record IsReady (program : Raw) (stack : Stack) (instr : Instr) : Type 0 where
  pub names : NamesKnown program (slots_of program stack.top.frame.body) instr
  pub slots : length (slots_of program stack.top.frame.body) ≤ 2 ^ 32
  pub next : stack.top.frame.next + 1 < 2 ^ 32
  pub births : stack.top.births + 1 < 2 ^ 64
  pub regions : stack.top.regions + 1 < 2 ^ 64
  pub phase : stack.top.phase + 1 < 2 ^ 64
