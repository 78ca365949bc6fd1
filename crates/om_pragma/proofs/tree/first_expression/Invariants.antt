use Rattle.std.proofs.Common.{◌≡◌, length}
use Rattle.om_pragma.specs.Expressions.{first_expression}
use Rattle.om_pragma.proofs.tree.first_expression.Given as goal

abbrev pub invariant-items : goal.invariant-items
invariant-items g l = first_expression l.rest ≡ first_expression l.fn.items

abbrev pub decreases-items : goal.decreases-items
decreases-items g l = length l.rest
