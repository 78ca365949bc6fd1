-- Resolved trees without the memory that they lie in.
use Rattle.std.specs.Prelude.{ℕ, ℤ, List, [], ◌∷◌, Option, Bool}
use Rattle.om_lexer.specs.declared.token.Span.{Span}
use Rattle.om_parser_tree.specs.declared.tree.AssignOperator.{AssignOperator}
use Rattle.om_parser_tree.specs.declared.tree.BinaryOperator.{BinaryOperator}
use Rattle.om_parser_tree.specs.declared.tree.PostfixOperator.{PostfixOperator}
use Rattle.om_pragma.specs.declared.clause.ValueClause.{ValueClause}
use Rattle.om_scope_tree.specs.declared.resolved.Capture.{Capture}
use Rattle.om_scope_tree.specs.declared.resolved.ConstructKind.{ConstructKind}
use Rattle.om_scope_tree.specs.declared.resolved.CopyKind.{CopyKind}
use Rattle.om_scope_tree.specs.declared.resolved.GlobalVariable.{GlobalVariable}
use Rattle.om_scope_tree.specs.declared.resolved.LocalVariable.{LocalVariable}
use Rattle.om_scope_tree.specs.declared.resolved.RegionKind.{RegionKind}
use Rattle.om_scope_tree.specs.declared.resolved.ResolvedSchedule.{ResolvedSchedule}
use Rattle.om_scope_tree.specs.declared.resolved.Side.{Side}
use Rattle.om_scope_tree.specs.declared.resolved.StandAlone as alone
use Rattle.om_scope_tree.specs.declared.resolved.UnaryOperator.{UnaryOperator}
use Rattle.om_scope_tree.specs.declared.resolved.UpdateOperator.{UpdateOperator}
use Rattle.om_scope_tree.specs.declared.resolved.Variable as variables

mutual
  -- an expression (C17 6.5); its parentheses are gone
  pub data ResolvedExpressionTree : Type 0 where
    Constant : ℤ → ResolvedExpressionTree
    Variable : variables.Variable → ResolvedExpressionTree
    Element : variables.Variable → (index : ResolvedExpressionTree) → ResolvedExpressionTree
    Call : (function : ℕ) → ValuesTree → ResolvedExpressionTree
    ThreadNumber : ResolvedExpressionTree
    TeamSize : ResolvedExpressionTree
    Print : (format : List ℕ) → ValuesTree → ResolvedExpressionTree
    Unary : UnaryOperator → ResolvedExpressionTree → ResolvedExpressionTree
    Binary : ResolvedExpressionTree → BinaryOperator → ResolvedExpressionTree → ResolvedExpressionTree
    Conditional : ResolvedExpressionTree → ResolvedExpressionTree → ResolvedExpressionTree → ResolvedExpressionTree
    Assign : variables.Variable → AssignOperator → ResolvedExpressionTree → ResolvedExpressionTree
    AssignElement : variables.Variable → (index : ResolvedExpressionTree) → AssignOperator → ResolvedExpressionTree
        → ResolvedExpressionTree
    Postfix : variables.Variable → PostfixOperator → ResolvedExpressionTree
    PostfixElement : variables.Variable → (index : ResolvedExpressionTree) → PostfixOperator → ResolvedExpressionTree

  -- the values of a call
  pub data ValuesTree : Type 0 where
    NoValues : ValuesTree
    Value : ResolvedExpressionTree → ValuesTree → ValuesTree

-- these values
abbrev pub values : List ResolvedExpressionTree → ValuesTree
values [] = NoValues
values (e ∷ rest) = Value e (values rest)

-- a declared variable of a function
pub record ResolvedDeclaratorTree : Type 0 where
  pub variable : LocalVariable
  pub length : Option ℕ
  pub initial : Option ResolvedExpressionTree

-- what a clause says of one variable, or its value
pub data ResolvedClauseTree : Type 0 where
  ClauseValue : ValueClause → ResolvedExpressionTree → ResolvedClauseTree
  Shared : variables.Variable → ResolvedClauseTree
  Copied : CopyKind → (original : variables.Variable) → (copy : LocalVariable) → ResolvedClauseTree

-- a loop in canonical form
pub record ResolvedLoopTree : Type 0 where
  -- its `for`
  pub at : Span
  pub variable : LocalVariable
  pub from : ResolvedExpressionTree
  pub comparison : BinaryOperator
  pub to : ResolvedExpressionTree
  pub step : ℤ
  pub schedule : ResolvedSchedule

-- the statement of an `atomic` that updates its variable, with the span of its first token
pub record ResolvedUpdateTree : Type 0 where
  pub at : Span
  pub variable : variables.Variable
  -- where an element is updated
  pub index : Option ResolvedExpressionTree
  pub operator : UpdateOperator
  pub side : Side
  pub operand : ResolvedExpressionTree

-- what a `for` begins with
pub data ResolvedStartTree : Type 0 where
  StartNothing : ResolvedStartTree
  StartExpression : ResolvedExpressionTree → ResolvedStartTree
  StartDeclaration : List ResolvedDeclaratorTree → ResolvedStartTree

mutual
  -- a statement (C17 6.8), with the span of its first token
  pub data ResolvedStatementTree : Type 0 where
    Declaration : Span → List ResolvedDeclaratorTree → ResolvedStatementTree
    Block : Span → ResolvedStatementsTree → ResolvedStatementTree
    Empty : Span → ResolvedStatementTree
    Expression : Span → ResolvedExpressionTree → ResolvedStatementTree
    If : Span → ResolvedExpressionTree → ResolvedStatementTree → ResolvedStatementTree
    IfElse : Span → ResolvedExpressionTree → ResolvedStatementTree → ResolvedStatementTree → ResolvedStatementTree
    While : Span → ResolvedExpressionTree → ResolvedStatementTree → ResolvedStatementTree
    Do : Span → ResolvedStatementTree → ResolvedExpressionTree → ResolvedStatementTree
    For : Span → ResolvedStartTree → (condition : Option ResolvedExpressionTree)
        → (step : Option ResolvedExpressionTree) → ResolvedStatementTree → ResolvedStatementTree
    Return : Span → Option ResolvedExpressionTree → ResolvedStatementTree
    Break : Span → ResolvedStatementTree
    Continue : Span → ResolvedStatementTree
    Region : Span → RegionKind → List ResolvedClauseTree → List Capture → ResolvedStatementTree
        → ResolvedStatementTree
    Loop : Span → List ResolvedClauseTree → (nowait : Bool) → ResolvedLoopTree → ResolvedStatementTree
        → ResolvedStatementTree
    Sections : Span → List ResolvedClauseTree → (nowait : Bool) → ResolvedPartsTree → ResolvedStatementTree
    Construct : Span → ConstructKind → List ResolvedClauseTree → ResolvedStatementTree → ResolvedStatementTree
    Update : Span → ResolvedUpdateTree → ResolvedStatementTree
    StandAlone : Span → alone.StandAlone → ResolvedStatementTree

  -- several of them
  pub data ResolvedStatementsTree : Type 0 where
    NoStatements : ResolvedStatementsTree
    Statement : ResolvedStatementTree → ResolvedStatementsTree → ResolvedStatementsTree

  -- the parts of `sections`, each with its statements
  pub data ResolvedPartsTree : Type 0 where
    NoParts : ResolvedPartsTree
    Part : ResolvedStatementsTree → ResolvedPartsTree → ResolvedPartsTree

-- these statements
abbrev pub statements : List ResolvedStatementTree → ResolvedStatementsTree
statements [] = NoStatements
statements (s ∷ rest) = Statement s (statements rest)

-- parts with these statements
abbrev pub parts : List ResolvedStatementsTree → ResolvedPartsTree
parts [] = NoParts
parts (items ∷ rest) = Part items (parts rest)

-- a function (C17 6.9.1), with the byte of its name, its first token, whether it returns an `int`, and the
-- line of its closing brace
pub record ResolvedFunctionTree : Type 0 where
  pub name : List ℕ
  pub name_at : ℕ
  pub first : Span
  pub returns : Bool
  pub parameters : List LocalVariable
  pub body : ResolvedStatementsTree
  pub closing_line : ℕ

-- a whole source; the number of a global, and of a function, is its place in the list
pub record ResolvedTree : Type 0 where
  pub globals : List GlobalVariable
  pub functions : List ResolvedFunctionTree
