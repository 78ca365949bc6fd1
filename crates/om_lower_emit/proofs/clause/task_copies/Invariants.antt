use Rattle.std.proofs.Common.{drop, map}
use Rattle.om_lower_emit.specs.Drafts.{Written}
use Rattle.om_scope_tree.specs.ResolvedView as view
use Rattle.om_lower_rules.specs.Scopes.{each_scope, task_scope}
use Rattle.om_lower_emit.specs.Scoping.{ScopesOn}
use Rattle.om_lower_rules.specs.Numbered.{Numbered}
use Rattle.om_lower_emit.proofs.clause.task_copies.Given as goal

abbrev pub invariant-loop-clause : goal.invariant-loop-clause
invariant-loop-clause l = (names : Numbered) (d : Written)
    → ScopesOn names (λ at. each_scope task_scope (map view.clause l.clauses))
    (λ at. each_scope task_scope (map view.clause (drop l.clause-index l.clauses))) d l.fn.scopes d l.scopes
