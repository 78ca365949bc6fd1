use Rattle.std.proofs.Common.{drop, length, map}
use Rattle.om_scope_tree.specs.ResolvedView as view
use Rattle.om_lower_rules.specs.Scopes.{each_scope, clause_scope}
use Rattle.om_lower_rules.specs.Statements.{clause_start}
use Rattle.om_lower_emit.specs.Emits.{names_at}
use Rattle.om_lower_emit.specs.Each.{GoesOn}
use Rattle.om_lower_emit.specs.Scoping.{ScopesOn}
use Rattle.om_lower_emit.proofs.clause.starts.Given as goal

abbrev pub invariant-loop-clause : goal.invariant-loop-clause
invariant-loop-clause l =
    GoesOn (length l.fn.writing.draft.places) (names_at l.here) (λ at. clause_start at l.here.at.line) view.clause
    l.clauses (drop l.clause-index l.clauses) l.fn.writing.draft l.writing.draft
    × ScopesOn (names_at l.here) (λ at. each_scope (clause_scope at l.here.at.line) (map view.clause l.clauses))
    (λ at. each_scope (clause_scope at l.here.at.line) (map view.clause (drop l.clause-index l.clauses)))
    l.fn.writing.draft l.fn.writing.scopes l.writing.draft l.writing.scopes
