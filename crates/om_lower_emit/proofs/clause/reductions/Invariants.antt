use Rattle.std.proofs.Common.{drop, length}
use Rattle.om_scope_tree.specs.ResolvedView as view
use Rattle.om_lower_rules.specs.Statements.{combine_clause}
use Rattle.om_lower_emit.specs.Emits.{names_at}
use Rattle.om_lower_emit.specs.Each.{GoesOn}
use Rattle.om_lower_emit.proofs.clause.reductions.Given as goal

abbrev pub invariant-loop-clause : goal.invariant-loop-clause
invariant-loop-clause l =
    GoesOn (length l.fn.draft.places) (names_at l.here) (λ at. combine_clause at l.here.at.line) view.clause
    l.clauses (drop l.clause-index l.clauses) l.fn.draft l.draft
