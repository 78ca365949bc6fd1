-- Trees without the memory that they lie in: no boxes, no capacities.
use Rattle.std.specs.Prelude.{List, [], ◌∷◌, Option}
use Rattle.om_lexer.specs.declared.token.Span.{Span}
use Rattle.om_pragma.specs.declared.tree.Directive.{Directive}
use Rattle.om_parser_tree.specs.declared.tree.ArrayLength.{ArrayLength}
use Rattle.om_parser_tree.specs.declared.tree.AssignOperator.{AssignOperator}
use Rattle.om_parser_tree.specs.declared.tree.BinaryOperator.{BinaryOperator}
use Rattle.om_pragma.specs.declared.clause.Name as names
use Rattle.om_pragma.specs.declared.clause.Number.{Number}
use Rattle.om_parser_tree.specs.declared.tree.Parameter.{Parameter}
use Rattle.om_parser_tree.specs.declared.tree.PostfixOperator.{PostfixOperator}
use Rattle.om_parser_tree.specs.declared.tree.PrefixOperator.{PrefixOperator}
use Rattle.om_parser_tree.specs.declared.tree.ResultType.{ResultType}
use Rattle.om_parser_tree.specs.declared.tree.SignedNumber.{SignedNumber}
use Rattle.om_parser_tree.specs.declared.tree.Text as texts

mutual
  -- an expression (C17 6.5)
  pub data ExpressionTree : Type 0 where
    Name : names.Name → ExpressionTree
    Constant : Number → ExpressionTree
    Text : texts.Text → ExpressionTree
    Paren : (left : Span) → ExpressionTree → (right : Span) → ExpressionTree
    Index : names.Name → (left : Span) → ExpressionTree → (right : Span) → ExpressionTree
    Call : names.Name → (left : Span) → ArgumentsTree → (right : Span) → ExpressionTree
    Prefix : PrefixOperator → Span → ExpressionTree → ExpressionTree
    Postfix : ExpressionTree → PostfixOperator → Span → ExpressionTree
    Binary : ExpressionTree → BinaryOperator → Span → ExpressionTree → ExpressionTree
    Conditional : ExpressionTree → (question : Span) → ExpressionTree → (colon : Span) → ExpressionTree → ExpressionTree
    Assign : ExpressionTree → AssignOperator → Span → ExpressionTree → ExpressionTree

  -- the arguments of a call (C17 6.5.2.2), each behind its comma, if it has one
  pub data ArgumentsTree : Type 0 where
    NoArguments : ArgumentsTree
    Argument : (comma : Option Span) → ExpressionTree → ArgumentsTree → ArgumentsTree

-- these arguments
abbrev pub arguments : List (Option Span × ExpressionTree) → ArgumentsTree
arguments [] = NoArguments
arguments (a ∷ rest) = Argument a.0 a.1 (arguments rest)

-- what a variable holds at the start (C17 6.7.9)
pub record InitializerTree (I : Type 0) : Type 0 where
  pub equal : Span
  pub value : I

-- a declared variable (C17 6.7.6)
pub record DeclaratorTree (I : Type 0) : Type 0 where
  pub name : names.Name
  pub array : Option ArrayLength
  pub initializer : Option (InitializerTree I)

-- a declaration (C17 6.7); each further declarator stands behind its comma
pub record DeclarationTree (I : Type 0) : Type 0 where
  pub int : Span
  pub first : DeclaratorTree I
  pub rest : List (Span × DeclaratorTree I)
  pub semicolon : Span

-- an expression in parentheses behind a word
pub record ConditionTree : Type 0 where
  pub open_paren : Span
  pub value : ExpressionTree
  pub close_paren : Span

-- what a `for` begins with, up to its first semicolon (C17 6.8.5.3)
pub data ForStartTree : Type 0 where
  Nothing : (semicolon : Span) → ForStartTree
  StartExpression : ExpressionTree → (semicolon : Span) → ForStartTree
  StartDeclaration : DeclarationTree ExpressionTree → ForStartTree

-- a `for` up to its closing parenthesis
pub record ForHeadTree : Type 0 where
  pub word : Span
  pub open_paren : Span
  pub start : ForStartTree
  pub condition : Option ExpressionTree
  pub semicolon : Span
  pub step : Option ExpressionTree
  pub close_paren : Span

mutual
  -- a statement or another item of a block (C17 6.8)
  pub data StatementTree : Type 0 where
    LocalDeclaration : DeclarationTree ExpressionTree → StatementTree
    Block : (left : Span) → StatementsTree → (right : Span) → StatementTree
    Empty : (semicolon : Span) → StatementTree
    Expression : ExpressionTree → (semicolon : Span) → StatementTree
    If : Span → ConditionTree → StatementTree → StatementTree
    IfElse : Span → ConditionTree → StatementTree → (other : Span) → StatementTree → StatementTree
    While : Span → ConditionTree → StatementTree → StatementTree
    Do : Span → StatementTree → (again : Span) → ConditionTree → (semicolon : Span) → StatementTree
    For : ForHeadTree → StatementTree → StatementTree
    Return : Span → Option ExpressionTree → (semicolon : Span) → StatementTree
    Break : Span → (semicolon : Span) → StatementTree
    Continue : Span → (semicolon : Span) → StatementTree
    Construct : Directive ExpressionTree → StatementTree → StatementTree
    StandAlone : Directive ExpressionTree → StatementTree
    Sections : Directive ExpressionTree → (left : Span) → PartsTree → (right : Span) → StatementTree

  -- several of them
  pub data StatementsTree : Type 0 where
    NoStatements : StatementsTree
    Statement : StatementTree → StatementsTree → StatementsTree

  -- the parts of `sections` (OpenMP API 5.2, section 11.3), each with its `section`, if it has one, and its items
  pub data PartsTree : Type 0 where
    NoParts : PartsTree
    Part : (section : Option (Directive ExpressionTree)) → StatementsTree → PartsTree → PartsTree

-- these statements
abbrev pub statements : List StatementTree → StatementsTree
statements [] = NoStatements
statements (s ∷ rest) = Statement s (statements rest)

-- a part of `sections`
pub record PartTree : Type 0 where
  pub section : Option (Directive ExpressionTree)
  pub items : StatementsTree

-- these parts
abbrev pub parts : List PartTree → PartsTree
parts [] = NoParts
parts (p ∷ rest) = Part p.section p.items (parts rest)

-- the block of a function (C17 6.8.2)
pub record BlockTree : Type 0 where
  pub open_brace : Span
  pub items : List StatementTree
  pub close_brace : Span

-- what stands in the parentheses of a function's declaration (C17 6.7.6.3)
pub data ParametersTree (N : Type 0) : Type 0 where
  NoParameters : ParametersTree N
  Void : Span → ParametersTree N
  Listed : Parameter N → List (Span × Parameter N) → ParametersTree N

-- a function's result, name and parameters
pub record HeadTree (N : Type 0) : Type 0 where
  pub result : ResultType
  pub name : names.Name
  pub open_paren : Span
  pub parameters : ParametersTree N
  pub close_paren : Span

-- the definition of a function, which names its parameters (C17 6.9.1)
pub record FunctionTree : Type 0 where
  pub head : HeadTree names.Name
  pub body : BlockTree

-- what stands at file scope (C17 6.9): globals start with a number, and a prototype need not name its parameters
pub data ItemTree : Type 0 where
  Declaration : DeclarationTree SignedNumber → ItemTree
  Prototype : HeadTree (Option names.Name) → (semicolon : Span) → ItemTree
  Function : FunctionTree → ItemTree

-- a translation unit (C17 6.9), with the place where the source ends
pub record UnitTree : Type 0 where
  pub items : List ItemTree
  pub end : Span
