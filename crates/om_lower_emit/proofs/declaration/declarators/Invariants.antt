use Rattle.std.proofs.Common.{drop, length, map}
use Rattle.om_scope_tree.specs.ResolvedView as view
use Rattle.om_lower_rules.specs.Scopes.{each_scope, declarator_scope}
use Rattle.om_lower_rules.specs.Statements.{declarator}
use Rattle.om_lower_emit.specs.Emits.{names_at}
use Rattle.om_lower_emit.specs.Each.{GoesOn}
use Rattle.om_lower_emit.specs.Scoping.{ScopesOn}
use Rattle.om_lower_emit.proofs.declaration.declarators.Given as goal

abbrev pub invariant-loop-one : goal.invariant-loop-one
invariant-loop-one l =
    GoesOn (length l.fn.writing.draft.places) (names_at l.here) (λ at. declarator at l.here.at.line)
    view.declarator
    l.declared (drop l.one-index l.declared) l.fn.writing.draft l.writing.draft
    × ScopesOn (names_at l.here) (λ at. each_scope (declarator_scope at l.here.at.line) (map view.declarator l.declared))
    (λ at. each_scope (declarator_scope at l.here.at.line) (map view.declarator (drop l.one-index l.declared)))
    l.fn.writing.draft l.fn.writing.scopes l.writing.draft l.writing.scopes
