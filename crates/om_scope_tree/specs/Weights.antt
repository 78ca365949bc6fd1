-- How many parts of a tree get a number when it is lowered, counted generously: each function, `parallel` and `task`
-- may have a body, each `sections` a list of its parts, and each `printf` a format. Each other construct that is no loop
-- and no atomic update may have a lock.
use Rattle.std.specs.Prelude.{ℕ, ◌+◌, ◌<◌, ◌^◌, List, Option, None, Some, map, sum}
use Rattle.om_scope_tree.specs.ResolvedTree.{ResolvedExpressionTree, Constant, Variable, Element, Call, ThreadNumber}
use Rattle.om_scope_tree.specs.ResolvedTree.{TeamSize, Print, Unary, Binary, Conditional, Assign, AssignElement, Postfix}
use Rattle.om_scope_tree.specs.ResolvedTree.{PostfixElement, ValuesTree, NoValues, Value, ResolvedDeclaratorTree}
use Rattle.om_scope_tree.specs.ResolvedTree.{ResolvedClauseTree, ClauseValue, Shared, Copied, ResolvedLoopTree}
use Rattle.om_scope_tree.specs.ResolvedTree.{ResolvedUpdateTree, ResolvedStartTree, StartNothing, StartExpression}
use Rattle.om_scope_tree.specs.ResolvedTree.{StartDeclaration, ResolvedStatementTree, Declaration, Block, Empty}
use Rattle.om_scope_tree.specs.ResolvedTree.{Expression, If, IfElse, While, Do, For, Return, Break, Continue, Region}
use Rattle.om_scope_tree.specs.ResolvedTree.{Loop, Sections, Construct, Update, StandAlone, ResolvedStatementsTree}
use Rattle.om_scope_tree.specs.ResolvedTree.{NoStatements, Statement, ResolvedPartsTree, NoParts, Part}
use Rattle.om_scope_tree.specs.ResolvedTree.{ResolvedFunctionTree, ResolvedTree}

-- ---- how many `printf`s stand in an expression

unfoldable mutual
  pub expression_weight : ResolvedExpressionTree → ℕ
  expression_weight (Constant value) = 0
  expression_weight (Variable v) = 0
  expression_weight (Element v index) = expression_weight index
  expression_weight (Call function values) = values_weight values
  expression_weight ThreadNumber = 0
  expression_weight TeamSize = 0
  expression_weight (Print format values) = 1 + values_weight values
  expression_weight (Unary o e) = expression_weight e
  expression_weight (Binary a o b) = expression_weight a + expression_weight b
  expression_weight (Conditional c a b) = expression_weight c + (expression_weight a + expression_weight b)
  expression_weight (Assign v o e) = expression_weight e
  expression_weight (AssignElement v index o e) = expression_weight index + expression_weight e
  expression_weight (Postfix v o) = 0
  expression_weight (PostfixElement v index o) = expression_weight index

  pub values_weight : ValuesTree → ℕ
  values_weight NoValues = 0
  values_weight (Value e rest) = expression_weight e + values_weight rest

abbrev pub perhaps_weight : Option ResolvedExpressionTree → ℕ
perhaps_weight None = 0
perhaps_weight (Some e) = expression_weight e

abbrev pub declarator_weight : ResolvedDeclaratorTree → ℕ
declarator_weight d = perhaps_weight d.initial

abbrev pub start_weight : ResolvedStartTree → ℕ
start_weight StartNothing = 0
start_weight (StartExpression e) = expression_weight e
start_weight (StartDeclaration ds) = sum (map declarator_weight ds)

abbrev pub clause_weight : ResolvedClauseTree → ℕ
clause_weight (ClauseValue kind e) = expression_weight e
clause_weight (Shared v) = 0
clause_weight (Copied kind original copy) = 0

abbrev pub loop_weight : ResolvedLoopTree → ℕ
loop_weight l = expression_weight l.from + expression_weight l.to

abbrev pub update_weight : ResolvedUpdateTree → ℕ
update_weight u = perhaps_weight u.index + expression_weight u.operand

-- ---- and constructs and functions beside them

unfoldable mutual
  pub statement_weight : ResolvedStatementTree → ℕ
  statement_weight (Declaration at ds) = sum (map declarator_weight ds)
  statement_weight (Block at items) = statements_weight items
  statement_weight (Empty at) = 0
  statement_weight (Expression at e) = expression_weight e
  statement_weight (If at c s) = expression_weight c + statement_weight s
  statement_weight (IfElse at c s t) = expression_weight c + (statement_weight s + statement_weight t)
  statement_weight (While at c s) = expression_weight c + statement_weight s
  statement_weight (Do at s c) = statement_weight s + expression_weight c
  statement_weight (For at start condition step s) =
      start_weight start + (perhaps_weight condition + (perhaps_weight step + statement_weight s))
  statement_weight (Return at value) = perhaps_weight value
  statement_weight (Break at) = 0
  statement_weight (Continue at) = 0
  statement_weight (Region at kind clauses captures s) = 1 + (sum (map clause_weight clauses) + statement_weight s)
  statement_weight (Loop at clauses nowait l s) = sum (map clause_weight clauses) + (loop_weight l + statement_weight s)
  statement_weight (Sections at clauses nowait parts) = 1 + (sum (map clause_weight clauses) + parts_weight parts)
  statement_weight (Construct at kind clauses s) = 1 + (sum (map clause_weight clauses) + statement_weight s)
  statement_weight (Update at u) = update_weight u
  statement_weight (StandAlone at directive) = 0

  pub statements_weight : ResolvedStatementsTree → ℕ
  statements_weight NoStatements = 0
  statements_weight (Statement s rest) = statement_weight s + statements_weight rest

  pub parts_weight : ResolvedPartsTree → ℕ
  parts_weight NoParts = 0
  parts_weight (Part items rest) = statements_weight items + parts_weight rest

abbrev pub function_weight : ResolvedFunctionTree → ℕ
function_weight f = 1 + statements_weight f.body

abbrev pub tree_weight : ResolvedTree → ℕ
tree_weight tree = sum (map function_weight tree.functions)

-- so each of them has a number of 32 bits
abbrev pub HasSmallWeight : ResolvedTree → Type 0
HasSmallWeight tree = tree_weight tree < 2 ^ 32
