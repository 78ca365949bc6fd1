-- Which variables of its function a region takes from outside, and how (OpenMP API 5.2, section 5.1).
use Rattle.std.specs.Prelude.{ℕ, List, [], ◌∷◌, ◌++◌, Option, None, Some, Bool, false, fold, map, nat_lt, nat_eq, not}
use Rattle.std.specs.Prelude.{◌&&◌, ◌||◌, if◌then◌else◌}
use Rattle.std.specs.List.{flat_map, list_any}
use Rattle.om_scope_tree.specs.declared.resolved.Capture.{Capture}
use Rattle.om_scope_tree.specs.declared.resolved.CopyKind.{CopyKind}
use Rattle.om_scope_tree.specs.declared.resolved.CopyKind.TheVariants as copies
use Rattle.om_scope_tree.specs.declared.resolved.StandAlone as alone
use Rattle.om_scope_tree.specs.declared.resolved.StandAlone.TheVariants as alones
use Rattle.om_scope_tree.specs.declared.resolved.Taking.{Taking}
use Rattle.om_scope_tree.specs.declared.resolved.Taking.TheVariants as takings
use Rattle.om_scope_tree.specs.declared.resolved.Variable as variables
use Rattle.om_scope_tree.specs.declared.resolved.Variable.TheVariants as named
use Rattle.om_scope_tree.specs.ResolvedTree.{ResolvedExpressionTree, Constant, Variable, Element, Call, ThreadNumber}
use Rattle.om_scope_tree.specs.ResolvedTree.{TeamSize, Print, Unary, Binary, Conditional, Assign, AssignElement, Postfix}
use Rattle.om_scope_tree.specs.ResolvedTree.{PostfixElement, ValuesTree, NoValues, Value, ResolvedDeclaratorTree}
use Rattle.om_scope_tree.specs.ResolvedTree.{ResolvedClauseTree, ClauseValue, Shared, Copied, ResolvedStartTree}
use Rattle.om_scope_tree.specs.ResolvedTree.{StartNothing, StartExpression, StartDeclaration, ResolvedUpdateTree}
use Rattle.om_scope_tree.specs.ResolvedTree.{ResolvedStatementTree, Declaration, Block, Empty, Expression, If, IfElse}
use Rattle.om_scope_tree.specs.ResolvedTree.{While, Do, For, Return, Break, Continue, Region, Loop, Sections}
use Rattle.om_scope_tree.specs.ResolvedTree.{Construct, Update, StandAlone, ResolvedStatementsTree, NoStatements}
use Rattle.om_scope_tree.specs.ResolvedTree.{Statement, ResolvedPartsTree, NoParts, Part}

-- ---- the variables of the function that a part uses, in the order of the text

abbrev pub variable_uses : variables.Variable → List ℕ
variable_uses (named.Local at) = at ∷ []
variable_uses (named.Global number) = []

unfoldable mutual
  pub expression_uses : ResolvedExpressionTree → List ℕ
  expression_uses (Constant value) = []
  expression_uses (Variable v) = variable_uses v
  expression_uses (Element v index) = variable_uses v ++ expression_uses index
  expression_uses (Call function values) = values_uses values
  expression_uses ThreadNumber = []
  expression_uses TeamSize = []
  expression_uses (Print format values) = values_uses values
  expression_uses (Unary o e) = expression_uses e
  expression_uses (Binary a o b) = expression_uses a ++ expression_uses b
  expression_uses (Conditional c a b) = expression_uses c ++ (expression_uses a ++ expression_uses b)
  expression_uses (Assign v o e) = variable_uses v ++ expression_uses e
  expression_uses (AssignElement v index o e) = variable_uses v ++ (expression_uses index ++ expression_uses e)
  expression_uses (Postfix v o) = variable_uses v
  expression_uses (PostfixElement v index o) = variable_uses v ++ expression_uses index

  pub values_uses : ValuesTree → List ℕ
  values_uses NoValues = []
  values_uses (Value e rest) = expression_uses e ++ values_uses rest

abbrev pub perhaps_uses : Option ResolvedExpressionTree → List ℕ
perhaps_uses None = []
perhaps_uses (Some e) = expression_uses e

abbrev pub declarator_uses : ResolvedDeclaratorTree → List ℕ
declarator_uses d = perhaps_uses d.initial

abbrev pub start_uses : ResolvedStartTree → List ℕ
start_uses StartNothing = []
start_uses (StartExpression e) = expression_uses e
start_uses (StartDeclaration ds) = flat_map declarator_uses ds

-- of an update, whose target stands first
abbrev pub update_uses : ResolvedUpdateTree → List ℕ
update_uses u = variable_uses u.variable ++ (perhaps_uses u.index ++ expression_uses u.operand)

-- a private copy uses no original
abbrev pub copy_uses : CopyKind → variables.Variable → List ℕ
copy_uses copies.Private original = []
copy_uses copies.Firstprivate original = variable_uses original
copy_uses (copies.Reduction o) original = variable_uses original

-- of a clause, outside of its construct
abbrev pub clause_uses : ResolvedClauseTree → List ℕ
clause_uses (ClauseValue kind e) = expression_uses e
clause_uses (Shared v) = variable_uses v
clause_uses (Copied kind original copy) = copy_uses kind original

abbrev pub stand_alone_uses : alone.StandAlone → List ℕ
stand_alone_uses alones.Barrier = []
stand_alone_uses alones.Taskwait = []
stand_alone_uses alones.Taskyield = []
stand_alone_uses (alones.Flush vs) = flat_map variable_uses vs

abbrev pub captured_variable : Capture → ℕ
captured_variable capture = capture.variable

-- of a statement, besides the statements in it; a `do` uses its condition behind its body
abbrev pub own_uses : ResolvedStatementTree → List ℕ
own_uses (Declaration at ds) = flat_map declarator_uses ds
own_uses (Block at items) = []
own_uses (Empty at) = []
own_uses (Expression at e) = expression_uses e
own_uses (If at c s) = expression_uses c
own_uses (IfElse at c s t) = expression_uses c
own_uses (While at c s) = expression_uses c
own_uses (Do at s c) = []
own_uses (For at start condition step s) = start_uses start ++ (perhaps_uses condition ++ perhaps_uses step)
own_uses (Return at value) = perhaps_uses value
own_uses (Break at) = []
own_uses (Continue at) = []
own_uses (Region at kind clauses captures s) = flat_map clause_uses clauses ++ map captured_variable captures
own_uses (Loop at clauses nowait l s) = flat_map clause_uses clauses ++ (expression_uses l.from ++ expression_uses l.to)
own_uses (Sections at clauses nowait parts) = flat_map clause_uses clauses
own_uses (Construct at kind clauses s) = flat_map clause_uses clauses
own_uses (Update at u) = update_uses u
own_uses (StandAlone at directive) = stand_alone_uses directive

-- what a region uses from outside is used in those round it
unfoldable mutual
  pub statement_uses : ResolvedStatementTree → List ℕ
  statement_uses (Declaration at ds) = flat_map declarator_uses ds
  statement_uses (Block at items) = statements_uses items
  statement_uses (Empty at) = []
  statement_uses (Expression at e) = expression_uses e
  statement_uses (If at c s) = expression_uses c ++ statement_uses s
  statement_uses (IfElse at c s t) = expression_uses c ++ (statement_uses s ++ statement_uses t)
  statement_uses (While at c s) = expression_uses c ++ statement_uses s
  statement_uses (Do at s c) = statement_uses s ++ expression_uses c
  statement_uses (For at start condition step s) = start_uses start
      ++ (perhaps_uses condition ++ (perhaps_uses step ++ statement_uses s))
  statement_uses (Return at value) = perhaps_uses value
  statement_uses (Break at) = []
  statement_uses (Continue at) = []
  statement_uses (Region at kind clauses captures s) = flat_map clause_uses clauses ++ map captured_variable captures
  statement_uses (Loop at clauses nowait l s) = flat_map clause_uses clauses
      ++ (expression_uses l.from ++ (expression_uses l.to ++ statement_uses s))
  statement_uses (Sections at clauses nowait parts) = flat_map clause_uses clauses ++ parts_uses parts
  statement_uses (Construct at kind clauses s) = flat_map clause_uses clauses ++ statement_uses s
  statement_uses (Update at u) = update_uses u
  statement_uses (StandAlone at directive) = stand_alone_uses directive

  pub statements_uses : ResolvedStatementsTree → List ℕ
  statements_uses NoStatements = []
  statements_uses (Statement s rest) = statement_uses s ++ statements_uses rest

  pub parts_uses : ResolvedPartsTree → List ℕ
  parts_uses NoParts = []
  parts_uses (Part items rest) = statements_uses items ++ parts_uses rest

-- ---- what a region takes

-- a copy uses its original in the region only where it is combined into that
abbrev pub combined_uses : CopyKind → variables.Variable → List ℕ
combined_uses copies.Private original = []
combined_uses copies.Firstprivate original = []
combined_uses (copies.Reduction o) original = variable_uses original

-- of a clause, in its region: a listed variable counts as used
abbrev pub listed_uses : ResolvedClauseTree → List ℕ
listed_uses (ClauseValue kind e) = []
listed_uses (Shared v) = variable_uses v
listed_uses (Copied kind original copy) = combined_uses kind original

-- a variable is declared before a region begins, and not among those found before
abbrev pub is_further : (start : ℕ) → List ℕ → ℕ → Bool
is_further start found variable = nat_lt variable start && not (list_any (nat_eq variable) found)

abbrev pub with_use : (start : ℕ) → List ℕ → ℕ → List ℕ
with_use start found variable = if is_further start found variable then found ++ variable ∷ [] else found

-- the variables from outside that the clauses of a region list as used in it, each once
abbrev pub listed_variables : (start : ℕ) → List ResolvedClauseTree → List ℕ
listed_variables start clauses = fold (with_use start) [] (flat_map listed_uses clauses)

-- the variables from outside that a region uses that begins there, each once
abbrev pub taken_variables : (start : ℕ) → List ResolvedClauseTree → ResolvedStatementTree → List ℕ
taken_variables start clauses body = fold (with_use start) (listed_variables start clauses) (statement_uses body)

-- variables, each with how it is taken
abbrev pub captured : (ℕ → Taking) → List ℕ → List Capture
captured taking variables = map (λ variable. record { variable = variable; taking = taking variable }) variables

abbrev pub captures_of : (ℕ → Taking) → (start : ℕ) → List ResolvedClauseTree → ResolvedStatementTree → List Capture
captures_of taking start clauses body = captured taking (taken_variables start clauses body)

-- `parallel` shares what it does not copy
abbrev pub taken_by_parallel : ℕ → Taking
taken_by_parallel variable = takings.Shared

-- a variable that is declared before the innermost `parallel` begins is shared by all of its implicit tasks
abbrev pub is_before : Option ℕ → ℕ → Bool
is_before None variable = false
is_before (Some parallel) variable = nat_lt variable parallel

-- a `task` shares what `default` tells it to, what its clauses list, and what all implicit tasks of the
-- `parallel` round it share
abbrev pub taken_by_task : (has_default : Bool) → (parallel : Option ℕ) → (listed : List ℕ) → ℕ → Taking
taken_by_task has_default parallel listed variable =
    if has_default || list_any (nat_eq variable) listed || is_before parallel variable then takings.Shared else
    takings.Firstprivate
