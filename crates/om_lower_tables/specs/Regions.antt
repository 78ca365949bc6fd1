-- The bodies of `parallel` and `task`, as parts of a tree.
use Rattle.std.specs.Prelude.{map}
use Rattle.om_lower_rules.specs.declared.copies.Region.{Region}
use Rattle.om_scope_tree.specs.declared.resolved.RegionKind.{RegionKind}
use Rattle.om_scope_tree.specs.ResolvedTree.{ResolvedStatementTree}
use Rattle.om_scope_tree.specs.ResolvedView as view
use Rattle.om_lower_rules.specs.Bodies.{BodyTree, RegionBody}

abbrev pub statement_of : Region → ResolvedStatementTree
statement_of region = view.statement region.statement.now

-- as a region of this kind
abbrev pub tree_as : RegionKind → Region → BodyTree
tree_as kind region =
    RegionBody region.at kind (map view.clause region.clauses.now) region.captures.now (statement_of region)

abbrev pub region_tree : Region → BodyTree
region_tree region = tree_as region.kind region
