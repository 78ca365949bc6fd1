use Rattle.std.proofs.Common.{◌≡◌, ◌++◌, map, drop}
use Rattle.om_scope_tree.specs.ResolvedTree as trees
use Rattle.om_scope_tree.specs.ResolvedView as view
use Rattle.om_scope_tree.specs.Weights.{parts_weight, statements_weight}
use Rattle.om_lower_rules.specs.Bodies as bodies
use Rattle.om_lower_rules.specs.Mentions.{all_mentioned, parts_mentioned}
use Rattle.om_lower_rules.specs.Ends.{all_region_ends, parts_region_ends}
use Rattle.om_lower_rules.specs.Numbering.{numbers_of}
use Rattle.om_lower_tables.specs.Room.{HasRoom}
use Rattle.om_lower_tables.proofs.Noting.{AreLeft}
use Rattle.om_lower_tables.proofs.mentions.+statement.Given as goal

abbrev pub invariant-note_statements-loop-item : goal.invariant-note_statements-loop-item
invariant-note_statements-loop-item l =
    let left = trees.statements (map view.statement (drop l.item-index l.items)) in
    let all = trees.statements (map view.statement l.items) in
    (bodies.behind_all (numbers_of l.walk.numbers) left ≡ bodies.behind_all (numbers_of l.fn.walk.numbers) all)
    × (map numbers_of l.walk.ends.items ++ all_region_ends (numbers_of l.walk.numbers) left
    ≡ map numbers_of l.fn.walk.ends.items ++ all_region_ends (numbers_of l.fn.walk.numbers) all)
    × HasRoom (statements_weight left) l.walk
    × AreLeft (λ A m. all_mentioned m left) (λ A m. all_mentioned m all) l.walk.found
    l.fn.walk.found

abbrev pub invariant-note_parts-loop-part : goal.invariant-note_parts-loop-part
invariant-note_parts-loop-part l =
    let left = trees.parts (map view.part (drop l.part-index l.parts)) in
    let all = trees.parts (map view.part l.parts) in
    (bodies.behind_parts (numbers_of l.walk.numbers) left ≡ bodies.behind_parts (numbers_of l.fn.walk.numbers) all)
    × (map numbers_of l.walk.ends.items ++ parts_region_ends (numbers_of l.walk.numbers) left
    ≡ map numbers_of l.fn.walk.ends.items ++ parts_region_ends (numbers_of l.fn.walk.numbers) all)
    × HasRoom (parts_weight left) l.walk
    × AreLeft (λ A m. parts_mentioned m left) (λ A m. parts_mentioned m all) l.walk.found
    l.fn.walk.found
