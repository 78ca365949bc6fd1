use Rattle.std.proofs.Common.{◌≡◌, map, drop}
use Rattle.std.specs.List.{flat_map}
use Rattle.om_lower_rules.specs.Slots.{clause_sights}
use Rattle.om_scope_tree.specs.ResolvedView as view
use Rattle.om_lower_tables.specs.Sighted.{sighted}
use Rattle.om_lower_tables.proofs.sights.see_clauses.Given as goal

abbrev pub invariant-loop-clause : goal.invariant-loop-clause
invariant-loop-clause l =
    sighted l.seen (flat_map clause_sights (map view.clause (drop l.clause-index l.clauses)))
    ≡ sighted l.fn.seen (flat_map clause_sights (map view.clause l.clauses))
