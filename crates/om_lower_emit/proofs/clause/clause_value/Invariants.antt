use Rattle.std.proofs.Common.{◌≡◌, drop, map}
use Rattle.om_scope_tree.specs.ResolvedView as view
use Rattle.om_lower_rules.specs.Statements as rows
use Rattle.om_lower_emit.proofs.clause.clause_value.Given as goal

abbrev pub invariant-loop-clause : goal.invariant-loop-clause
invariant-loop-clause l =
    rows.clause_value (map view.clause (drop l.clause-index l.clauses)) ≡ rows.clause_value
    (map view.clause l.clauses)
