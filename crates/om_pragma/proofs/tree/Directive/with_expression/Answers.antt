use Rattle.om_pragma.specs.Expressions.{expressions}
use Rattle.om_pragma.proofs.tree.Directive.with_expression.Goals as goal
use Rattle.std.proofs.Common.{refl}

pub filled-requires : goal.filled-requires
unfolding expressions
filled-requires g c = rw c.into_vec.ensures c.requires

pub returns : goal.returns
returns g c = λ f is. let made = c.in_ok-clauses.ensures f is in rw (made, c.into_vec.ensures) refl
