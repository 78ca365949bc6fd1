use Rattle.std.proofs.Common.{◌≡◌, ◌++◌, drop, map}
use Rattle.std.specs.List.{flat_map}
use Rattle.om_scope_tree.specs.ResolvedView as view
use Rattle.om_lower_rules.specs.Slots.{clause_first}
use Rattle.om_lower_rules.specs.Copies.{first_copies_of}
use Rattle.om_lower_rules.proofs.copies.add_clauses.Given as goal

abbrev pub invariant-loop-clause : goal.invariant-loop-clause
invariant-loop-clause l =
    first_copies_of l.copies.items ++ flat_map clause_first (map view.clause (drop l.clause-index l.clauses))
    ≡ first_copies_of l.fn.copies.items ++ flat_map clause_first (map view.clause l.clauses)
