-- Parts of statements that have a function of their own.
use Rattle.std.specs.Prelude.{Option, Some, if◌then◌else◌}
use Rattle.om_lexer.specs.declared.token.Span.{Span}
use Rattle.om_parser_tree.specs.Tree.{ExpressionTree, DeclarationTree}
use Rattle.om_scope_rules.specs.declared.region.SharingKind.{SharingKind}
use Rattle.om_scope_rules.specs.DirectiveRules.{Listed, in_kind}
use Rattle.om_scope_rules.specs.Perhaps.{◌>>=◌}
use Rattle.om_scope_rules.specs.Places.{expression_first}
use Rattle.om_scope_rules.specs.Resolution.{resolved_expression}
use Rattle.om_scope_tree.specs.ResolvedTree as resolved
use Rattle.om_scope_tree.specs.ResolvedTree.{ResolvedStatementTree}
use Rattle.om_scope_rules.specs.Scopes.{Scopes, declarators_of}
use Rattle.om_scope_rules.specs.Sharing.{is_parallel}
use Rattle.om_scope_rules.specs.StatementResolution.{resolved_declarators, resolved_perhaps}

-- of a declaration in a block
abbrev pub resolved_declaration : Scopes → DeclarationTree ExpressionTree → Option ResolvedStatementTree
resolved_declaration scopes d = resolved_declarators scopes (declarators_of d) >>= λ ds. Some
    (resolved.Declaration d.int ds)

-- of an expression whose value is not used
abbrev pub resolved_effect : Scopes → ExpressionTree → Option ResolvedStatementTree
resolved_effect scopes e = resolved_expression scopes e >>= λ x. Some (resolved.Expression (expression_first e) x)

-- of a `return`
abbrev pub resolved_return : Scopes → Span → Option ExpressionTree → Option ResolvedStatementTree
resolved_return scopes at value = resolved_perhaps scopes value >>= λ x. Some (resolved.Return at x)

-- the scopes of the bounds of a loop whose construct is of this kind, and whose clauses say this
abbrev pub round_listed : SharingKind → Listed → Scopes → Scopes
round_listed kind listed scopes = if is_parallel kind then in_kind kind listed scopes else scopes
