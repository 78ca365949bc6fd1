use Rattle.std.proofs.Common.{◌≡◌, ◌++◌, drop}
use Rattle.std.specs.Prelude.{option_map}
use Rattle.om_code.specs.Printing.{ints}
use Rattle.om_code.proofs.print.ints.Given as goal

abbrev pub invariant-loop-operand : goal.invariant-loop-operand
invariant-loop-operand l = option_map (λ rest. l.values.items ++ rest) (ints (drop l.operand-index l.operands))
    ≡ ints l.operands
