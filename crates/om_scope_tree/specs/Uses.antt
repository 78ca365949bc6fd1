-- What is true of every resolved tree: the number of each global is that of one, and there is a `main`.
use Rattle.std.specs.Prelude.{◌≡◌, ◌<◌, ◌≤◌, ℕ, List, Option, None, Some, Bool, true, codes, All, Any, length}
use Rattle.std.specs.Str.{bytes_eq}
use Rattle.om_scope_tree.specs.declared.resolved.StandAlone as alone
use Rattle.om_scope_tree.specs.declared.resolved.StandAlone.TheVariants as alones
use Rattle.om_scope_tree.specs.declared.resolved.Variable as variables
use Rattle.om_scope_tree.specs.declared.resolved.Variable.TheVariants as named
use Rattle.om_scope_tree.specs.ResolvedTree.{ResolvedExpressionTree, Constant, Variable, Element, Call, ThreadNumber}
use Rattle.om_scope_tree.specs.ResolvedTree.{TeamSize, Print, Unary, Binary, Conditional, Assign, AssignElement, Postfix}
use Rattle.om_scope_tree.specs.ResolvedTree.{PostfixElement, ValuesTree, NoValues, Value, ResolvedDeclaratorTree}
use Rattle.om_scope_tree.specs.ResolvedTree.{ResolvedClauseTree, ClauseValue, Shared, Copied, ResolvedStartTree}
use Rattle.om_scope_tree.specs.ResolvedTree.{StartNothing, StartExpression, StartDeclaration, ResolvedUpdateTree}
use Rattle.om_scope_tree.specs.ResolvedTree.{ResolvedStatementTree, Declaration, Block, Empty, Expression, If, IfElse}
use Rattle.om_scope_tree.specs.ResolvedTree.{While, Do, For, Return, Break, Continue, Region, Loop, Sections}
use Rattle.om_scope_tree.specs.ResolvedTree.{Construct, Update, StandAlone, ResolvedStatementsTree, NoStatements}
use Rattle.om_scope_tree.specs.ResolvedTree.{Statement, ResolvedPartsTree, NoParts, Part, ResolvedFunctionTree}
use Rattle.om_scope_tree.specs.ResolvedTree.{ResolvedTree}

-- a global is one of so many
abbrev pub IsVariable : ℕ → variables.Variable → Type 0
IsVariable globals (named.Global number) = number < globals
IsVariable globals (named.Local at) = Unit {0}

abbrev mutual
  pub UsesVariables : ℕ → ResolvedExpressionTree → Type 0
  UsesVariables globals (Constant value) = Unit {0}
  UsesVariables globals (Variable v) = IsVariable globals v
  UsesVariables globals (Element v index) = IsVariable globals v × UsesVariables globals index
  UsesVariables globals (Call function values) = ValuesUseVariables globals values
  UsesVariables globals ThreadNumber = Unit {0}
  UsesVariables globals TeamSize = Unit {0}
  UsesVariables globals (Print format values) = ValuesUseVariables globals values
  UsesVariables globals (Unary o e) = UsesVariables globals e
  UsesVariables globals (Binary a o b) = UsesVariables globals a × UsesVariables globals b
  UsesVariables globals (Conditional c a b) = UsesVariables globals c × UsesVariables globals a
      × UsesVariables globals b
  UsesVariables globals (Assign v o e) = IsVariable globals v × UsesVariables globals e
  UsesVariables globals (AssignElement v index o e) = IsVariable globals v × UsesVariables globals index
      × UsesVariables globals e
  UsesVariables globals (Postfix v o) = IsVariable globals v
  UsesVariables globals (PostfixElement v index o) = IsVariable globals v × UsesVariables globals index

  pub ValuesUseVariables : ℕ → ValuesTree → Type 0
  ValuesUseVariables globals NoValues = Unit {0}
  ValuesUseVariables globals (Value e rest) = UsesVariables globals e × ValuesUseVariables globals rest

abbrev pub PerhapsUsesVariables : ℕ → Option ResolvedExpressionTree → Type 0
PerhapsUsesVariables globals None = Unit {0}
PerhapsUsesVariables globals (Some e) = UsesVariables globals e

abbrev pub DeclaratorsUseVariables : ℕ → List ResolvedDeclaratorTree → Type 0
DeclaratorsUseVariables globals ds = All (λ d. PerhapsUsesVariables globals d.initial) ds

abbrev pub StartUsesVariables : ℕ → ResolvedStartTree → Type 0
StartUsesVariables globals StartNothing = Unit {0}
StartUsesVariables globals (StartExpression e) = UsesVariables globals e
StartUsesVariables globals (StartDeclaration ds) = DeclaratorsUseVariables globals ds

abbrev pub ClauseUsesVariables : ℕ → ResolvedClauseTree → Type 0
ClauseUsesVariables globals (ClauseValue kind e) = UsesVariables globals e
ClauseUsesVariables globals (Shared v) = IsVariable globals v
ClauseUsesVariables globals (Copied kind original copy) = IsVariable globals original

abbrev pub ClausesUseVariables : ℕ → List ResolvedClauseTree → Type 0
ClausesUseVariables globals clauses = All (λ clause. ClauseUsesVariables globals clause) clauses

abbrev pub UpdateUsesVariables : ℕ → ResolvedUpdateTree → Type 0
UpdateUsesVariables globals u = IsVariable globals u.variable × PerhapsUsesVariables globals u.index
    × UsesVariables globals u.operand

abbrev pub StandAloneUsesVariables : ℕ → alone.StandAlone → Type 0
StandAloneUsesVariables globals alones.Barrier = Unit {0}
StandAloneUsesVariables globals alones.Taskwait = Unit {0}
StandAloneUsesVariables globals alones.Taskyield = Unit {0}
StandAloneUsesVariables globals (alones.Flush vs) = All (λ v. IsVariable globals v) vs

abbrev mutual
  pub StatementUsesVariables : ℕ → ResolvedStatementTree → Type 0
  StatementUsesVariables globals (Declaration at ds) = DeclaratorsUseVariables globals ds
  StatementUsesVariables globals (Block at items) = StatementsUseVariables globals items
  StatementUsesVariables globals (Empty at) = Unit {0}
  StatementUsesVariables globals (Expression at e) = UsesVariables globals e
  StatementUsesVariables globals (If at c s) = UsesVariables globals c × StatementUsesVariables globals s
  StatementUsesVariables globals (IfElse at c s t) = UsesVariables globals c × StatementUsesVariables globals s
      × StatementUsesVariables globals t
  StatementUsesVariables globals (While at c s) = UsesVariables globals c × StatementUsesVariables globals s
  StatementUsesVariables globals (Do at s c) = StatementUsesVariables globals s × UsesVariables globals c
  StatementUsesVariables globals (For at start condition step s) =
      StartUsesVariables globals start × PerhapsUsesVariables globals condition × PerhapsUsesVariables globals step
      × StatementUsesVariables globals s
  StatementUsesVariables globals (Return at value) = PerhapsUsesVariables globals value
  StatementUsesVariables globals (Break at) = Unit {0}
  StatementUsesVariables globals (Continue at) = Unit {0}
  StatementUsesVariables globals (Region at kind clauses captures s) = ClausesUseVariables globals clauses
      × StatementUsesVariables globals s
  StatementUsesVariables globals (Loop at clauses nowait l s) =
      ClausesUseVariables globals clauses × UsesVariables globals l.from × UsesVariables globals l.to
      × StatementUsesVariables globals s
  StatementUsesVariables globals (Sections at clauses nowait parts) = ClausesUseVariables globals clauses
      × PartsUseVariables globals parts
  StatementUsesVariables globals (Construct at kind clauses s) = ClausesUseVariables globals clauses
      × StatementUsesVariables globals s
  StatementUsesVariables globals (Update at u) = UpdateUsesVariables globals u
  StatementUsesVariables globals (StandAlone at directive) = StandAloneUsesVariables globals directive

  pub StatementsUseVariables : ℕ → ResolvedStatementsTree → Type 0
  StatementsUseVariables globals NoStatements = Unit {0}
  StatementsUseVariables globals (Statement s rest) = StatementUsesVariables globals s × StatementsUseVariables
      globals rest

  pub PartsUseVariables : ℕ → ResolvedPartsTree → Type 0
  PartsUseVariables globals NoParts = Unit {0}
  PartsUseVariables globals (Part items rest) = StatementsUseVariables globals items × PartsUseVariables globals rest

abbrev pub FunctionUsesVariables : ℕ → ResolvedFunctionTree → Type 0
FunctionUsesVariables globals function = StatementsUseVariables globals function.body

abbrev pub is_main_function : ResolvedFunctionTree → Bool
is_main_function function = bytes_eq function.name (codes "main")

-- every global that is used is one of the globals, there is a `main`, and there are at most 65,536 globals
-- and 256 functions
pub record IsResolved (tree : ResolvedTree) : Type 0 where
  pub globals : length tree.globals ≤ 65536
  pub functions : length tree.functions ≤ 256
  pub main : Any (λ function. is_main_function function ≡ true) tree.functions
  pub uses : All (λ function. FunctionUsesVariables (length tree.globals) function) tree.functions
