use Rattle.std.proofs.Common.{◌≡◌, ◌++◌, [], map, drop}
use Rattle.om_lower_tables.specs.Sites.{KeepsRound, bodies_in, function_of, site_variables}
use Rattle.om_lower_tables.specs.Room.{HasNumbers}
use Rattle.om_scope_tree.specs.ResolvedTree as trees
use Rattle.om_scope_tree.specs.ResolvedView as view
use Rattle.om_scope_tree.specs.Weights.{parts_weight, statements_weight}
use Rattle.om_lower_rules.specs.Bodies as bodies
use Rattle.om_lower_rules.specs.Numbering.{numbers_of}
use Rattle.om_lower_tables.proofs.sites.+statement.Given as goal

abbrev pub invariant-see_statements-loop-item : goal.invariant-see_statements-loop-item
invariant-see_statements-loop-item l =
    let left = trees.statements (map view.statement (drop l.item-index l.items)) in
    let all = trees.statements (map view.statement l.items) in
    let regions = bodies.all_regions (function_of l.round) (site_variables l.round) in
    (bodies.behind_all (numbers_of l.behind) left ≡ bodies.behind_all (numbers_of l.fn.numbers) all)
    × (bodies_in [] l.sites.items ++ regions (numbers_of l.behind) left
    ≡ bodies_in [] l.fn.sites.items ++ regions (numbers_of l.fn.numbers) all)
    × HasNumbers (statements_weight left) l.behind
    × KeepsRound l.round.depth l.fn.sites.items l.sites.items

abbrev pub invariant-see_parts-loop-part : goal.invariant-see_parts-loop-part
invariant-see_parts-loop-part l =
    let left = trees.parts (map view.part (drop l.part-index l.parts)) in
    let all = trees.parts (map view.part l.parts) in
    let regions = bodies.parts_regions (function_of l.round) (site_variables l.round) in
    (bodies.behind_parts (numbers_of l.behind) left ≡ bodies.behind_parts (numbers_of l.fn.numbers) all)
    × (bodies_in [] l.sites.items ++ regions (numbers_of l.behind) left
    ≡ bodies_in [] l.fn.sites.items ++ regions (numbers_of l.fn.numbers) all)
    × HasNumbers (parts_weight left) l.behind
    × KeepsRound l.round.depth l.fn.sites.items l.sites.items
