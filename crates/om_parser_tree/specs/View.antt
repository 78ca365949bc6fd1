-- The tree of a value of the program.
use Rattle.std.specs.Prelude.{List, Option, Vec, map, option_map}
use Rattle.std.specs.Global.{Box}
use Rattle.std.specs.declared.alloc.Global.{Global}
use Rattle.om_lexer.specs.declared.token.Span.{Span}
use Rattle.om_pragma.specs.declared.tree.Directive.{Directive}
use Rattle.om_pragma.specs.Expressions.{map_directive}
use Rattle.om_parser_tree.specs.declared.tree.Block as blocks
use Rattle.om_parser_tree.specs.declared.tree.Condition.{Condition}
use Rattle.om_parser_tree.specs.declared.tree.Declaration as declarations
use Rattle.om_parser_tree.specs.declared.tree.Declarator.{Declarator}
use Rattle.om_parser_tree.specs.declared.tree.Expression.{Expression, fold-Expression}
use Rattle.om_parser_tree.specs.declared.tree.Expression.TheOpen.{Expression-F}
use Rattle.om_parser_tree.specs.declared.tree.ForHead.{ForHead}
use Rattle.om_parser_tree.specs.declared.tree.ForStart.{ForStart}
use Rattle.om_parser_tree.specs.declared.tree.ForStart.TheVariants as starts
use Rattle.om_parser_tree.specs.declared.tree.Function as functions
use Rattle.om_parser_tree.specs.declared.tree.FunctionHead.{FunctionHead}
use Rattle.om_parser_tree.specs.declared.tree.Initializer.{Initializer}
use Rattle.om_parser_tree.specs.declared.tree.Item.{Item}
use Rattle.om_parser_tree.specs.declared.tree.Item.TheVariants as items
use Rattle.om_parser_tree.specs.declared.tree.Parameters.{Parameters}
use Rattle.om_parser_tree.specs.declared.tree.Parameters.TheVariants as parameters
use Rattle.om_parser_tree.specs.declared.tree.Part.{Part, Part-F, fold-Part}
use Rattle.om_parser_tree.specs.declared.tree.SignedNumber.{SignedNumber}
use Rattle.om_parser_tree.specs.declared.tree.Statement.{Statement, fold-Statement}
use Rattle.om_parser_tree.specs.declared.tree.Statement.TheOpen.{Statement-F}
use Rattle.om_parser_tree.specs.declared.tree.Unit as units
use Rattle.om_parser_tree.specs.Tree as trees
use Rattle.om_parser_tree.specs.Tree.{ExpressionTree, InitializerTree, DeclaratorTree, DeclarationTree, ConditionTree}
use Rattle.om_parser_tree.specs.Tree.{ForStartTree, ForHeadTree, StatementTree, BlockTree, ParametersTree, HeadTree}
use Rattle.om_parser_tree.specs.Tree.{FunctionTree, ItemTree, UnitTree, PartTree, ArgumentsTree, StatementsTree}

-- one layer of an expression, whose parts are trees already
abbrev pub expression_layer : Expression-F ExpressionTree → ExpressionTree
expression_layer (Expression-F.Name n) = trees.Name n
expression_layer (Expression-F.Constant n) = trees.Constant n
expression_layer (Expression-F.Text t) = trees.Text t
expression_layer (Expression-F.Paren left e right) = trees.Paren left e.value right
expression_layer (Expression-F.Index n left e right) = trees.Index n left e.value right
expression_layer (Expression-F.Call n left values right) = trees.Call n left (trees.arguments values.items) right
expression_layer (Expression-F.Prefix o at e) = trees.Prefix o at e.value
expression_layer (Expression-F.Postfix e o at) = trees.Postfix e.value o at
expression_layer (Expression-F.Binary a o at b) = trees.Binary a.value o at b.value
expression_layer (Expression-F.Conditional c question a colon b) = trees.Conditional c.value question a.value colon
    b.value
expression_layer (Expression-F.Assign a o at b) = trees.Assign a.value o at b.value

-- an expression without boxes and capacities
abbrev pub view_expression : Expression → ExpressionTree
view_expression = fold-Expression ExpressionTree expression_layer

-- an argument behind its comma, if it has one
abbrev pub view_argument : Option Span × Expression → Option Span × ExpressionTree
view_argument a = (a.0, view_expression a.1)

-- the arguments of a call (C17 6.5.2.2)
abbrev pub view_arguments : List (Option Span × Expression) → ArgumentsTree
view_arguments values = trees.arguments (map view_argument values)

-- an initializer, whose value is viewed so
abbrev pub view_initializer : {I T : Type 0} → (I → T) → Initializer I → InitializerTree T
view_initializer view i = record { equal = i.equal; value = view i.value }

-- a declarator without boxes and capacities
abbrev pub view_declarator : {I T : Type 0} → (I → T) → Declarator I → DeclaratorTree T
view_declarator view d = record {
  name = d.name;
  array = d.array;
  initializer = option_map (view_initializer view) d.initializer;
}

-- a declarator behind its comma
abbrev pub view_further : {I T : Type 0} → (I → T) → Span × Declarator I → Span × DeclaratorTree T
view_further view d = (d.0, view_declarator view d.1)

-- a declaration without boxes and capacities
abbrev pub view_declaration : {I T : Type 0} → (I → T) → declarations.Declaration I → DeclarationTree T
view_declaration view d = record {
  int = d.int;
  first = view_declarator view d.first;
  rest = map (view_further view) d.rest.items;
  semicolon = d.semicolon;
}

-- a declaration in a block or a `for`
abbrev pub view_local : declarations.Declaration Expression → DeclarationTree ExpressionTree
view_local = view_declaration view_expression

-- a number is its own tree
abbrev pub view_number : SignedNumber → SignedNumber
view_number number = number

-- a declaration at file scope
abbrev pub view_global : declarations.Declaration SignedNumber → DeclarationTree SignedNumber
view_global = view_declaration view_number

-- an expression in parentheses, as a tree
abbrev pub view_condition : Condition → ConditionTree
view_condition c = record { open_paren = c.open_paren; value = view_expression c.value; close_paren = c.close_paren }

-- what a `for` begins with, as a tree
abbrev pub view_for_start : ForStart → ForStartTree
view_for_start (starts.Nothing semicolon) = trees.Nothing semicolon
view_for_start (starts.Expression e semicolon) = trees.StartExpression (view_expression e) semicolon
view_for_start (starts.Declaration d) = trees.StartDeclaration (view_local d)

-- a `for` up to its closing parenthesis, as a tree
abbrev pub view_for_head : ForHead → ForHeadTree
view_for_head h = record {
  word = h.word;
  open_paren = h.open_paren;
  start = view_for_start h.start;
  condition = option_map view_expression h.condition;
  semicolon = h.semicolon;
  step = option_map view_expression h.step;
  close_paren = h.close_paren;
}

-- a directive whose expressions are trees
abbrev pub view_directive : Directive Expression → Directive ExpressionTree
view_directive = map_directive view_expression

-- one layer of a statement, whose parts are trees already
abbrev pub statement_layer : Statement-F StatementTree PartTree → StatementTree
statement_layer (Statement-F.Declaration d) = trees.LocalDeclaration (view_local d.value)
statement_layer (Statement-F.Block left items right) = trees.Block left (trees.statements items.items) right
statement_layer (Statement-F.Empty semicolon) = trees.Empty semicolon
statement_layer (Statement-F.Expression e semicolon) = trees.Expression (view_expression e.value) semicolon
statement_layer (Statement-F.If at c s) = trees.If at (view_condition c.value) s.value
statement_layer (Statement-F.IfElse at c s other t) = trees.IfElse at (view_condition c.value) s.value other t.value
statement_layer (Statement-F.While at c s) = trees.While at (view_condition c.value) s.value
statement_layer (Statement-F.Do at s again c semicolon) = trees.Do at s.value again (view_condition c.value) semicolon
statement_layer (Statement-F.For h s) = trees.For (view_for_head h.value) s.value
statement_layer (Statement-F.Return at value semicolon) = trees.Return at (option_map (λ e. view_expression e.value)
    value) semicolon
statement_layer (Statement-F.Break at semicolon) = trees.Break at semicolon
statement_layer (Statement-F.Continue at semicolon) = trees.Continue at semicolon
statement_layer (Statement-F.Construct d s) = trees.Construct (view_directive d.value) s.value
statement_layer (Statement-F.StandAlone d) = trees.StandAlone (view_directive d.value)
statement_layer (Statement-F.Sections d left parts right) = trees.Sections (view_directive d.value) left
    (trees.parts parts.items) right

-- the same of a part of `sections`
abbrev pub part_layer : Part-F StatementTree PartTree → PartTree
part_layer p = record {
  section = option_map (λ d. view_directive d.value) p.section;
  items = trees.statements p.items.items;
}

-- a statement without boxes and capacities
abbrev pub view_statement : Statement → StatementTree
view_statement = fold-Statement StatementTree PartTree statement_layer part_layer

-- a part of `sections` without boxes and capacities
abbrev pub view_part : Part → PartTree
view_part = fold-Part StatementTree PartTree statement_layer part_layer

-- the condition that stands in a statement, out of its box
abbrev pub view_test : Box Condition → ConditionTree
view_test condition = view_condition condition.value

-- the directive that stands before a statement, out of its box
abbrev pub view_line : Box (Directive Expression) → Directive ExpressionTree
view_line directive = view_directive directive.value

-- the statement that stands in another one, out of its box
abbrev pub view_inner : Box Statement → StatementTree
view_inner body = view_statement body.value

-- the statements that stand in a block
abbrev pub view_braced : Vec Statement Global → StatementsTree
view_braced items = trees.statements (map view_statement items.items)

-- a block without boxes and capacities
abbrev pub view_block : blocks.Block → BlockTree
view_block b = record {
  open_brace = b.open_brace;
  items = map view_statement b.items.items;
  close_brace = b.close_brace;
}

-- parameters without capacities
abbrev pub view_parameters : {N : Type 0} → Parameters N → ParametersTree N
view_parameters parameters.Nothing = trees.NoParameters
view_parameters (parameters.Void at) = trees.Void at
view_parameters (parameters.Listed first rest) = trees.Listed first rest.items

-- a function's result, name and parameters, as a tree
abbrev pub view_head : {N : Type 0} → FunctionHead N → HeadTree N
view_head h = record {
  result = h.result;
  name = h.name;
  open_paren = h.open_paren;
  parameters = view_parameters h.parameters;
  close_paren = h.close_paren;
}

-- the same of a function
abbrev pub view_function : functions.Function → FunctionTree
view_function f = record { head = view_head f.head; body = view_block f.body }

-- what stands at file scope, as a tree
abbrev pub view_item : Item → ItemTree
view_item (items.Declaration d) = trees.Declaration (view_global d)
view_item (items.Prototype h semicolon) = trees.Prototype (view_head h) semicolon
view_item (items.Function f) = trees.Function (view_function f)

-- a whole source, as a tree
abbrev pub view_unit : units.Unit → UnitTree
view_unit u = record { items = map view_item u.items.items; end = u.end }
