use Rattle.std.proofs.Common.{◌≡◌, fold, map, drop}
use Rattle.std.specs.List.{flat_map}
use Rattle.om_scope_tree.specs.Captures.{clause_uses}
use Rattle.om_scope_tree.specs.ResolvedView as view
use Rattle.om_scope_tree.proofs.uses.take_clauses.Given as goal

abbrev pub invariant-loop-clause : goal.invariant-loop-clause
invariant-loop-clause g l =
    fold g.S.Sighting.next l.seen
    (flat_map clause_uses (map view.clause (drop l.clause-index l.clauses))) ≡ fold g.S.Sighting.next
    l.fn.seen (flat_map clause_uses (map view.clause l.clauses))
