use Rattle.std.proofs.Common.{map, drop}
use Rattle.std.specs.Prelude.{sum}
use Rattle.std.specs.List.{flat_map}
use Rattle.om_scope_tree.specs.ResolvedView as view
use Rattle.om_scope_tree.specs.Weights.{declarator_weight}
use Rattle.om_lower_rules.specs.Mentions.{declarator_mentioned}
use Rattle.om_lower_tables.specs.Room.{HasTextRoom}
use Rattle.om_lower_tables.proofs.Noting.{AreLeft}
use Rattle.om_lower_tables.proofs.mentions.note_declarators.Given as goal

abbrev pub invariant-loop-declarator : goal.invariant-loop-declarator
invariant-loop-declarator l =
    let left = map view.declarator (drop l.declarator-index l.declarators) in
    let all = map view.declarator l.declarators in
    HasTextRoom (sum (map declarator_weight left)) l.found
    × AreLeft (λ A m. flat_map (declarator_mentioned m) left) (λ A m. flat_map (declarator_mentioned m) all) l.found
    l.fn.found
