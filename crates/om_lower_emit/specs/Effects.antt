-- Rows of expressions whose values nothing uses.
use Rattle.std.specs.Prelude.{ℕ, List}
use Rattle.om_code.specs.declared.instruction.Instr.TheVariants as i
use Rattle.om_code.specs.declared.instruction.Serial.TheVariants as serials
use Rattle.om_scope_tree.specs.ResolvedTree.{ResolvedExpressionTree, ValuesTree}
use Rattle.om_lower_rules.specs.Expressions.{printed, value, values}
use Rattle.om_lower_rules.specs.Rows.{Site, Row, end, ins, part, ◌▸◌}

-- `printf`, with its values
abbrev pub print : Site → ℕ → List ℕ → ValuesTree → Row
print at l format es = printed at l format es (values at l es)

-- an expression whose value is taken off
abbrev pub popped : Site → ℕ → ResolvedExpressionTree → Row
popped at l e = part (value at l e) ▸ ins at l (i.Serial serials.Pop) ▸ end
