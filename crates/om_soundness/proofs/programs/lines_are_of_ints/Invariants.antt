use Rattle.std.proofs.Common.{take}
use Rattle.std.specs.Prelude.{All}
use Rattle.om_soundness.specs.Ints.{HasIntConstant}
use Rattle.om_soundness.proofs.programs.lines_are_of_ints.Given as goal

abbrev pub invariant-loop-line : goal.invariant-loop-line
invariant-loop-line l = All (λ line. HasIntConstant line.instruction) (take l.line-index l.lines)
