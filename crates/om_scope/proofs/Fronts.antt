-- The first breach of the first two of three parts.
use Rattle.std.proofs.Common.{◌≡◌, List, [], ◌∷◌, ◌++◌, Some}
use Rattle.om_lexer.specs.declared.fault.SourceFault.{SourceFault}
use Rattle.om_parser_tree.specs.Tree.{ExpressionTree, StatementTree}
use Rattle.om_pragma.specs.declared.tree.Directive.{Directive}
use Rattle.om_scope_rules.specs.declared.region.Flow.{Flow}
use Rattle.om_scope_rules.specs.DirectiveRules.{constructing, directive_breaches, in_construct}
use Rattle.om_scope_rules.specs.Faults.{first_of}
use Rattle.om_scope_rules.specs.Loops.{Loop}
use Rattle.om_scope_rules.specs.Outcomes.{Refuses}
use Rattle.om_scope_rules.specs.Scopes.{Scopes}
use Rattle.om_scope_rules.specs.StatementRules.{body_breaches, found_breaches, loop_construct_breaches, round_bounds}
use Rattle.om_scope_rules.specs.InRow.{first_of_left}

first_of_front : (xs ys zs : List SourceFault) (fault : SourceFault) → first_of (xs ++ ys) ≡ Some fault
    → first_of (xs ++ (ys ++ zs)) ≡ Some fault
first_of_front [] ys zs fault e = first_of_left ys zs fault e
first_of_front (x ∷ xs) ys zs fault e = e

-- the clauses of a construct and the bounds of its loop go before the loop's body
pub bounds_refuse : (scopes : Scopes) (flow : Flow) (d : Directive ExpressionTree) (found : Loop)
    (s : StatementTree) (fault : SourceFault)
    → Refuses (directive_breaches scopes flow d ++ found_breaches (round_bounds d scopes) found) fault
    → Refuses (loop_construct_breaches scopes flow d (Some found) s) fault
bounds_refuse scopes flow d found s fault refused other =
    first_of_front (directive_breaches scopes flow d) (found_breaches (round_bounds d scopes) found)
    (body_breaches (in_construct d scopes) (constructing d flow) (Some found) s) fault (refused other)
