-- The trees of statements and their parts, and what is promised of a function that resolves them.
use Rattle.std.specs.Global.{Box}
use Rattle.std.specs.Prelude.{◌≡◌, ◌++◌, List, OnOk, Option, Result, Vec, map, option_map}
use Rattle.std.specs.declared.alloc.Global.{Global}
use Rattle.om_lexer.specs.declared.fault.SourceFault.{SourceFault}
use Rattle.om_pragma.specs.declared.clause.Name as names
use Rattle.om_pragma.specs.declared.tree.Directive.{Directive}
use Rattle.om_parser_tree.specs.declared.tree.Expression.{Expression}
use Rattle.om_parser_tree.specs.declared.tree.ForStart.{ForStart}
use Rattle.om_parser_tree.specs.declared.tree.FunctionHead.{FunctionHead}
use Rattle.om_parser_tree.specs.declared.tree.Parameter.{Parameter}
use Rattle.om_parser_tree.specs.declared.tree.Parameters.{Parameters}
use Rattle.om_parser_tree.specs.declared.tree.Part.{Part}
use Rattle.om_parser_tree.specs.declared.tree.Statement.{Statement}
use Rattle.om_parser_tree.specs.Tree as trees
use Rattle.om_parser_tree.specs.Tree.{ExpressionTree, ForHeadTree, PartsTree, StatementsTree}
use Rattle.om_parser_tree.specs.View.{view_directive, view_expression, view_for_start, view_head, view_parameters, view_part}
use Rattle.om_parser_tree.specs.View.{view_statement}
use Rattle.om_scope_tree.specs.declared.resolved.ResolvedClause.{ResolvedClause}
use Rattle.om_scope_tree.specs.declared.resolved.ResolvedExpression.{ResolvedExpression}
use Rattle.om_scope_tree.specs.declared.resolved.ResolvedHead.{ResolvedHead}
use Rattle.om_scope_tree.specs.declared.resolved.ResolvedPart.{ResolvedPart}
use Rattle.om_scope_tree.specs.declared.resolved.ResolvedStatement.{ResolvedStatement}
use Rattle.om_scope_tree.specs.ResolvedTree as resolved
use Rattle.om_scope_tree.specs.ResolvedTree.{ResolvedClauseTree, ResolvedPartsTree, ResolvedStatementTree}
use Rattle.om_scope_tree.specs.ResolvedTree.{ResolvedStatementsTree}
use Rattle.om_scope_tree.specs.ResolvedView as view
use Rattle.om_scope_rules.specs.declared.region.Flow.{Flow}
use Rattle.om_scope_rules.specs.Checks.{Checks}
use Rattle.om_scope_rules.specs.DirectiveRules.{in_construct}
use Rattle.om_scope_rules.specs.Outcomes.{Finds}
use Rattle.om_scope_rules.specs.Proper.{IsProper}
use Rattle.om_scope_rules.specs.Resolves.{Resolves}
use Rattle.om_scope_rules.specs.Scopes.{Scopes, after_function, after_prototype, parameters_of}
use Rattle.om_scope_rules.specs.StatementResolution.{resolved_perhaps, resolved_start, resolved_statement}
use Rattle.om_scope_rules.specs.StatementResolution.{resolved_statements}
use Rattle.om_scope_rules.specs.StatementRules.{after_for_start, after_statement, after_statements}
use Rattle.om_scope_rules.specs.StatementRules.{for_start_breaches, for_turn_breaches, statement_breaches}
use Rattle.om_scope_rules.specs.StatementRules.{statements_breaches}
use Rattle.om_scope_parts.specs.Views.{view_boxed}

-- ---- trees

-- an expression that may be left out
abbrev pub perhaps_tree : Option (Box Expression) → Option ExpressionTree
perhaps_tree value = option_map (λ boxed. view_expression boxed.value) value

-- the items of a block
abbrev pub item_trees : List Statement → StatementsTree
item_trees items = trees.statements (map view_statement items)

-- the parts of `sections`
abbrev pub part_trees : List Part → PartsTree
part_trees sections = trees.parts (map view_part sections)

-- the parameters that a function lists
abbrev pub parameters_in : {N : Type 0} → Parameters N → List (Parameter N)
parameters_in ps = parameters_of (view_parameters ps)

-- ---- resolved trees

-- a statement in a box
abbrev pub view_body : Box ResolvedStatement → ResolvedStatementTree
view_body body = view.statement body.value

-- the items of a block
abbrev pub view_items : Vec ResolvedStatement Global → ResolvedStatementsTree
view_items items = resolved.statements (map view.statement items.items)

-- the parts of `sections`
abbrev pub view_parts : Vec ResolvedPart Global → ResolvedPartsTree
view_parts parts = resolved.parts (map view.part parts.items)

-- the clauses of a construct
abbrev pub view_clauses : Vec ResolvedClause Global → List ResolvedClauseTree
view_clauses clauses = map view.clause clauses.items

-- ---- what is promised

-- a statement is refused, or resolved and seen so
abbrev pub ResolvesStatement : {X : Type 0} → (X → ResolvedStatementTree) → Result X SourceFault → Scopes → Flow
    → Statement → Type 0
ResolvesStatement seen result scopes flow s = Resolves seen result (statement_breaches scopes flow (view_statement s))
    (resolved_statement scopes flow.parallel (view_statement s))

-- one of the items of a block is refused, or all are resolved
abbrev pub ResolvesItems : Result (Vec ResolvedStatement Global) SourceFault → Scopes → Flow → List Statement → Type 0
ResolvesItems result scopes flow items = Resolves view_items result (statements_breaches scopes flow (item_trees items))
    (resolved_statements scopes flow.parallel (item_trees items))

-- the scopes are those behind the statement, unless it is refused
abbrev pub GoesBehind : {T : Type 0} → Result T SourceFault → Scopes → Scopes → Statement → Type 0
GoesBehind result old new s = OnOk result (new ≡ after_statement old (view_statement s))

-- the scopes are those behind the items of a block, unless one is refused
abbrev pub GoesBehindItems : {T : Type 0} → Result T SourceFault → Scopes → Scopes → List Statement → Type 0
GoesBehindItems result old new items = OnOk result (new ≡ after_statements old (map view_statement items))

-- the scopes are those behind what a `for` begins with, unless it is refused
abbrev pub GoesBehindStart : {T : Type 0} → Result T SourceFault → Scopes → Scopes → ForStart → Type 0
GoesBehindStart result old new start = OnOk result (new ≡ after_for_start old (view_for_start start))

-- the scopes are those in the construct, unless it is refused
abbrev pub EntersConstruct : {T : Type 0} → Result T SourceFault → Scopes → Scopes → Directive Expression → Type 0
EntersConstruct result old new d = OnOk result (new ≡ in_construct (view_directive d) old)

-- a directive with this statement is a well-formed construct, whose `atomic`s have their forms
abbrev pub IsProperConstruct : Directive Expression → Statement → Type 0
IsProperConstruct d s = IsProper (trees.Construct (view_directive d) (view_statement s))

-- ---- what is promised of the parts of a `for` and of heads of functions

-- what a `for` has before its body is refused, or each of its three parts is resolved
pub record ResolvesHead (result : Result (Box ResolvedHead) SourceFault) (scopes : Scopes) (head : ForHeadTree) :
    Type 0 where
  pub checked : Checks result
      (for_start_breaches scopes head.start ++ for_turn_breaches (after_for_start scopes head.start) head)
  pub start : Finds (λ found. view.start found.value.start) result (resolved_start scopes head.start)
  pub condition : Finds (λ found. option_map view.expression found.value.condition) result
      (resolved_perhaps (after_for_start scopes head.start) head.condition)
  pub step : Finds (λ found. option_map view.expression found.value.step) result
      (resolved_perhaps (after_for_start scopes head.start) head.step)

-- the condition or the step of a `for` is refused, or both are resolved
pub record ResolvesTurn
    (result : Result (Option (Box ResolvedExpression) × Option (Box ResolvedExpression)) SourceFault)
    (scopes : Scopes) (head : ForHeadTree) : Type 0 where
  pub checked : Checks result (for_turn_breaches scopes head)
  pub condition : Finds (λ found. option_map view_boxed found.0) result (resolved_perhaps scopes head.condition)
  pub step : Finds (λ found. option_map view_boxed found.1) result (resolved_perhaps scopes head.step)

-- the function is declared, unless it is refused
abbrev pub DeclaresHead : {T E N : Type 0} → Result T E → Scopes → Scopes → FunctionHead N → Type 0
DeclaresHead result old new head = OnOk result (new ≡ after_prototype old (view_head head))

-- the function is declared and defined, unless it is refused
abbrev pub DefinesHead : {T : Type 0} → Result T SourceFault → Scopes → Scopes → FunctionHead names.Name → Type 0
DefinesHead result old new head = OnOk result (new ≡ after_function old (view_head head))
