-- The resolved tree of a value of the program.
use Rattle.std.specs.Prelude.{map, option_map}
use Rattle.om_scope_tree.specs.declared.resolved.Resolved as wholes
use Rattle.om_scope_tree.specs.declared.resolved.ResolvedClause.{ResolvedClause}
use Rattle.om_scope_tree.specs.declared.resolved.ResolvedClause.TheVariants as clauses
use Rattle.om_scope_tree.specs.declared.resolved.ResolvedDeclarator.{ResolvedDeclarator}
use Rattle.om_scope_tree.specs.declared.resolved.ResolvedExpression.{ResolvedExpression, fold-ResolvedExpression}
use Rattle.om_scope_tree.specs.declared.resolved.ResolvedExpression.TheOpen.{ResolvedExpression-F}
use Rattle.om_scope_tree.specs.declared.resolved.ResolvedFunction.{ResolvedFunction}
use Rattle.om_scope_tree.specs.declared.resolved.ResolvedLoop.{ResolvedLoop}
use Rattle.om_scope_tree.specs.declared.resolved.ResolvedUpdate.{ResolvedUpdate}
use Rattle.om_scope_tree.specs.declared.resolved.ResolvedPart.{ResolvedPart, ResolvedPart-F, fold-ResolvedPart}
use Rattle.om_scope_tree.specs.declared.resolved.ResolvedStart.{ResolvedStart}
use Rattle.om_scope_tree.specs.declared.resolved.ResolvedStart.TheVariants as starts
use Rattle.om_scope_tree.specs.declared.resolved.ResolvedStatement.{ResolvedStatement, fold-ResolvedStatement}
use Rattle.om_scope_tree.specs.declared.resolved.ResolvedStatement.TheOpen.{ResolvedStatement-F}
use Rattle.om_scope_tree.specs.ResolvedTree as trees
use Rattle.om_scope_tree.specs.ResolvedTree.{ResolvedExpressionTree, ResolvedDeclaratorTree, ResolvedClauseTree}
use Rattle.om_scope_tree.specs.ResolvedTree.{ResolvedLoopTree, ResolvedUpdateTree, ResolvedStartTree}
use Rattle.om_scope_tree.specs.ResolvedTree.{ResolvedStatementTree, ResolvedStatementsTree, ResolvedFunctionTree}
use Rattle.om_scope_tree.specs.ResolvedTree.{ResolvedTree}

-- one layer of an expression, whose parts are trees already
abbrev pub expression_layer : ResolvedExpression-F ResolvedExpressionTree → ResolvedExpressionTree
expression_layer (ResolvedExpression-F.Constant value) = trees.Constant value
expression_layer (ResolvedExpression-F.Variable v) = trees.Variable v
expression_layer (ResolvedExpression-F.Element v index) = trees.Element v index.value
expression_layer (ResolvedExpression-F.Call function values) = trees.Call function (trees.values values.items)
expression_layer ResolvedExpression-F.ThreadNumber = trees.ThreadNumber
expression_layer ResolvedExpression-F.TeamSize = trees.TeamSize
expression_layer (ResolvedExpression-F.Print format values) = trees.Print format (trees.values values.items)
expression_layer (ResolvedExpression-F.Unary o e) = trees.Unary o e.value
expression_layer (ResolvedExpression-F.Binary a o b) = trees.Binary a.value o b.value
expression_layer (ResolvedExpression-F.Conditional c a b) = trees.Conditional c.value a.value b.value
expression_layer (ResolvedExpression-F.Assign v o e) = trees.Assign v o e.value
expression_layer (ResolvedExpression-F.AssignElement v index o e) = trees.AssignElement v index.value o e.value
expression_layer (ResolvedExpression-F.Postfix v o) = trees.Postfix v o
expression_layer (ResolvedExpression-F.PostfixElement v index o) = trees.PostfixElement v index.value o

-- an expression without boxes and capacities
abbrev pub expression : ResolvedExpression → ResolvedExpressionTree
expression = fold-ResolvedExpression ResolvedExpressionTree expression_layer

abbrev pub declarator : ResolvedDeclarator → ResolvedDeclaratorTree
declarator d = record {
  variable = d.variable;
  length = d.length;
  initial = option_map
      expression d.initial;
}

abbrev pub clause : ResolvedClause → ResolvedClauseTree
clause (clauses.Value kind e) = trees.ClauseValue kind (expression e)
clause (clauses.Shared v) = trees.Shared v
clause (clauses.Copied kind original copy) = trees.Copied kind original copy

abbrev pub loop : ResolvedLoop → ResolvedLoopTree
loop l = record {
  at = l.at;
  variable = l.variable;
  from = expression l.from;
  comparison = l.comparison;
  to = expression l.to;
  step = l.step;
  schedule = l.schedule;
}

abbrev pub update : ResolvedUpdate → ResolvedUpdateTree
update u = record {
  at = u.at;
  variable = u.variable;
  index = option_map expression u.index;
  operator = u.operator;
  side = u.side;
  operand = expression u.operand;
}

abbrev pub start : ResolvedStart → ResolvedStartTree
start starts.Nothing = trees.StartNothing
start (starts.Expression e) = trees.StartExpression (expression e)
start (starts.Declaration ds) = trees.StartDeclaration (map declarator ds.items)

-- one layer of a statement, whose parts are trees already
abbrev pub statement_layer : ResolvedStatement-F ResolvedStatementTree ResolvedStatementsTree → ResolvedStatementTree
statement_layer (ResolvedStatement-F.Declaration at ds) = trees.Declaration at (map declarator ds.items)
statement_layer (ResolvedStatement-F.Block at items) = trees.Block at (trees.statements items.items)
statement_layer (ResolvedStatement-F.Empty at) = trees.Empty at
statement_layer (ResolvedStatement-F.Expression at e) = trees.Expression at (expression e)
statement_layer (ResolvedStatement-F.If at c s) = trees.If at (expression c) s.value
statement_layer (ResolvedStatement-F.IfElse at c s t) = trees.IfElse at (expression c) s.value t.value
statement_layer (ResolvedStatement-F.While at c s) = trees.While at (expression c) s.value
statement_layer (ResolvedStatement-F.Do at s c) = trees.Do at s.value (expression c)
statement_layer (ResolvedStatement-F.For at head s) =
    trees.For at (start head.value.start) (option_map expression head.value.condition)
    (option_map expression head.value.step) s.value
statement_layer (ResolvedStatement-F.Return at value) = trees.Return at (option_map expression value)
statement_layer (ResolvedStatement-F.Break at) = trees.Break at
statement_layer (ResolvedStatement-F.Continue at) = trees.Continue at
statement_layer (ResolvedStatement-F.Region at kind clauses captures s) = trees.Region at kind
    (map clause clauses.items) captures s.value
statement_layer (ResolvedStatement-F.Loop at clauses nowait l s) = trees.Loop at
    (map clause clauses.items) nowait (loop l.value) s.value
statement_layer (ResolvedStatement-F.Sections at clauses nowait parts) = trees.Sections at
    (map clause clauses.items) nowait (trees.parts parts.items)
statement_layer (ResolvedStatement-F.Construct at kind clauses s) = trees.Construct at kind
    (map clause clauses.items) s.value
statement_layer (ResolvedStatement-F.Update at u) = trees.Update at (update u.value)
statement_layer (ResolvedStatement-F.StandAlone at directive) = trees.StandAlone at directive

-- the same of a part of `sections`
abbrev pub part_layer : ResolvedPart-F ResolvedStatementTree ResolvedStatementsTree → ResolvedStatementsTree
part_layer part = trees.statements part.items.items

-- a statement without boxes and capacities
abbrev pub statement : ResolvedStatement → ResolvedStatementTree
statement = fold-ResolvedStatement ResolvedStatementTree ResolvedStatementsTree statement_layer part_layer

-- the statements of a part of `sections`
abbrev pub part : ResolvedPart → ResolvedStatementsTree
part = fold-ResolvedPart ResolvedStatementTree ResolvedStatementsTree statement_layer part_layer

abbrev pub function : ResolvedFunction → ResolvedFunctionTree
function f = record {
  name = f.name;
  name_at = f.name_at;
  first = f.first;
  returns = f.returns;
  parameters = f.parameters;
  body = trees.statements (map statement f.body.items);
  closing_line = f.closing_line;
}

abbrev pub resolved : wholes.Resolved → ResolvedTree
resolved r = record { globals = r.globals; functions = map function r.functions.items }
