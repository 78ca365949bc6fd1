use Rattle.std.proofs.Common.{map, drop}
use Rattle.std.specs.Prelude.{sum}
use Rattle.std.specs.List.{flat_map}
use Rattle.om_scope_tree.specs.ResolvedView as view
use Rattle.om_scope_tree.specs.Weights.{clause_weight}
use Rattle.om_lower_rules.specs.Mentions.{clause_mentioned}
use Rattle.om_lower_tables.specs.Room.{HasTextRoom}
use Rattle.om_lower_tables.proofs.Noting.{AreLeft}
use Rattle.om_lower_tables.proofs.mentions.note_clauses.Given as goal

abbrev pub invariant-loop-clause : goal.invariant-loop-clause
invariant-loop-clause l =
    let left = map view.clause (drop l.clause-index l.clauses) in
    let all = map view.clause l.clauses in
    HasTextRoom (sum (map clause_weight left)) l.found
    × AreLeft (λ A m. flat_map (clause_mentioned m) left) (λ A m. flat_map (clause_mentioned m) all) l.found l.fn.found
