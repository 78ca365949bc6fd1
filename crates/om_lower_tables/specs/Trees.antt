-- What is resolved, as trees: lists of it, and what may be left out.
use Rattle.std.specs.Prelude.{List, Option, map, option_map}
use Rattle.om_scope_tree.specs.declared.resolved.ResolvedExpression.{ResolvedExpression}
use Rattle.om_scope_tree.specs.declared.resolved.ResolvedPart.{ResolvedPart}
use Rattle.om_scope_tree.specs.declared.resolved.ResolvedStatement.{ResolvedStatement}
use Rattle.om_scope_tree.specs.ResolvedTree as trees
use Rattle.om_scope_tree.specs.ResolvedTree.{ResolvedExpressionTree, ResolvedPartsTree, ResolvedStatementsTree}
use Rattle.om_scope_tree.specs.ResolvedTree.{ValuesTree}
use Rattle.om_scope_tree.specs.ResolvedView as view

-- the values of a call
abbrev pub listed : List ResolvedExpression → ValuesTree
listed es = trees.values (map view.expression es)

-- statements, one behind the other
abbrev pub statement_trees : List ResolvedStatement → ResolvedStatementsTree
statement_trees items = trees.statements (map view.statement items)

-- the parts of a `sections`
abbrev pub part_trees : List ResolvedPart → ResolvedPartsTree
part_trees parts = trees.parts (map view.part parts)

-- an expression that may be left out
abbrev pub perhaps_tree : Option ResolvedExpression → Option ResolvedExpressionTree
perhaps_tree e = option_map view.expression e
