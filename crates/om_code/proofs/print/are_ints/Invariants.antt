use Rattle.std.proofs.Common.{◌≡◌, drop}
use Rattle.std.specs.Prelude.{is_some}
use Rattle.om_code.specs.Printing.{ints}
use Rattle.om_code.proofs.print.are_ints.Given as goal

abbrev pub invariant-loop-operand : goal.invariant-loop-operand
invariant-loop-operand l = is_some (ints (drop l.operand-index l.operands)) ≡ is_some (ints l.operands)
