-- Which resolved trees are whole: what each part names is there and is of the kind that the part needs, and
-- jumps, clauses and values stand only where they may.
use Rattle.std.specs.Prelude.{◌≡◌, ◌≤◌, ◌⊎◌, ◌<ℤ◌, ℕ, ◌+◌, ℤ, pos, List, [], ◌∷◌, ◌++◌, Option, None, Some, Bool, true}
use Rattle.std.specs.Prelude.{false, All, Any, Contains, IsSomeAnd, IfSome, codes, length, map, option_map, slice_get}
use Rattle.std.specs.Prelude.{sum_by}
use Rattle.std.specs.List.{IsDistinct, flat_map}
use Rattle.std.specs.Str.{bytes_eq}
use Rattle.om_parser_tree.specs.declared.tree.BinaryOperator.{BinaryOperator}
use Rattle.om_parser_tree.specs.declared.tree.BinaryOperator.TheVariants as binaries
use Rattle.om_pragma.specs.declared.clause.ValueClause.{ValueClause}
use Rattle.om_pragma.specs.declared.clause.ValueClause.TheVariants as values
use Rattle.om_scope_tree.specs.declared.resolved.Capture.{Capture}
use Rattle.om_scope_tree.specs.declared.resolved.ConstructKind.{ConstructKind}
use Rattle.om_scope_tree.specs.declared.resolved.ConstructKind.TheVariants as constructs
use Rattle.om_scope_tree.specs.declared.resolved.CopyKind.{CopyKind}
use Rattle.om_scope_tree.specs.declared.resolved.CopyKind.TheVariants as copies
use Rattle.om_scope_tree.specs.declared.resolved.GlobalVariable.{GlobalVariable}
use Rattle.om_scope_tree.specs.declared.resolved.LocalVariable.{LocalVariable}
use Rattle.om_scope_tree.specs.declared.resolved.RegionKind.{RegionKind}
use Rattle.om_scope_tree.specs.declared.resolved.RegionKind.TheVariants as kinds
use Rattle.om_scope_tree.specs.declared.resolved.Shape.{Shape}
use Rattle.om_scope_tree.specs.declared.resolved.Shape.TheVariants as shapes
use Rattle.om_scope_tree.specs.declared.resolved.StandAlone as alone
use Rattle.om_scope_tree.specs.declared.resolved.StandAlone.TheVariants as alones
use Rattle.om_scope_tree.specs.declared.resolved.Variable as variables
use Rattle.om_scope_tree.specs.declared.resolved.Variable.TheVariants as named
use Rattle.om_scope_tree.specs.Captures.{captured_variable, taken_variables}
use Rattle.om_scope_tree.specs.Formats.{IsFormat}
use Rattle.om_scope_tree.specs.ResolvedTree.{ResolvedExpressionTree, Constant, Variable, Element, Call, ThreadNumber}
use Rattle.om_scope_tree.specs.ResolvedTree.{TeamSize, Print, Unary, Binary, Conditional, Assign, AssignElement, Postfix}
use Rattle.om_scope_tree.specs.ResolvedTree.{PostfixElement, ValuesTree, NoValues, Value, ResolvedDeclaratorTree}
use Rattle.om_scope_tree.specs.ResolvedTree.{ResolvedClauseTree, ClauseValue, Shared, Copied, ResolvedLoopTree}
use Rattle.om_scope_tree.specs.ResolvedTree.{ResolvedStartTree, StartNothing, StartExpression, StartDeclaration}
use Rattle.om_scope_tree.specs.ResolvedTree.{ResolvedUpdateTree, ResolvedStatementTree, Declaration, Block, Empty}
use Rattle.om_scope_tree.specs.ResolvedTree.{Expression, If, IfElse, While, Do, For, Return, Break, Continue, Region}
use Rattle.om_scope_tree.specs.ResolvedTree.{Loop, Sections, Construct, Update, StandAlone, ResolvedStatementsTree}
use Rattle.om_scope_tree.specs.ResolvedTree.{NoStatements, Statement, ResolvedPartsTree, NoParts, Part}
use Rattle.om_scope_tree.specs.ResolvedTree.{ResolvedFunctionTree, ResolvedTree}

-- ---- what stands round a part

-- a variable of a function: where it is declared or copied, and its shape
abbrev pub Local : Type 0
Local = ℕ × Shape

abbrev pub shape_of : Option ℕ → Shape
shape_of None = shapes.Scalar
shape_of (Some length) = shapes.Array

abbrev pub scalar : LocalVariable → Local
scalar variable = (variable.at, shapes.Scalar)

-- what stands round a part of a function
pub record Around : Type 0 where
  pub globals : List GlobalVariable
  pub functions : List ResolvedFunctionTree
  -- the variables of the function that are in scope (C17 6.2.1p4)
  pub locals : List Local
  -- the function returns an `int`
  pub returns : Bool
  -- there is a loop in the same construct, which a `break` ends (C17 6.8.6.3p1)
  pub breaks : Bool
  -- there is one, or the construct is for a loop, with which a `continue` goes on (C17 6.8.6.2p1)
  pub continues : Bool
  -- there is a construct, which a `return` would leave (OpenMP API 5.2, section 4.3)
  pub in_construct : Bool

abbrev pub with_locals : Around → List Local → Around
with_locals around locals = record around { locals = around.locals ++ locals }

-- in a loop
abbrev pub repeated : Around → Around
repeated around = record around { breaks = true; continues = true }

-- in a construct, which is for a loop or not
abbrev pub constructed : (for_loop : Bool) → Around → Around
constructed for_loop around = record around { breaks = false; continues = for_loop; in_construct = true }

-- a variable of this shape, among these
abbrev pub IsAmong : List GlobalVariable → List Local → Shape → variables.Variable → Type 0
IsAmong globals locals shape (named.Global number) = option_map (λ global. shape_of global.length)
    (slice_get globals number) ≡ Some shape
IsAmong globals locals shape (named.Local at) = Contains locals (at, shape)

abbrev pub IsInScope : Around → Shape → variables.Variable → Type 0
IsInScope around shape v = IsAmong around.globals around.locals shape v

-- ---- expressions

abbrev pub count_of : ValuesTree → ℕ
count_of NoValues = 0
count_of (Value e rest) = count_of rest + 1

abbrev pub is_main : ResolvedFunctionTree → Bool
is_main function = bytes_eq function.name (codes "main")

-- a function that is called with so many values, for its own value or not (C17 6.5.2.2p2); `main` is called
-- by no program (C17 5.1.2.2.1)
pub record IsCalled (is_used : Bool) (count : ℕ) (function : ResolvedFunctionTree) : Type 0 where
  pub parameters : length function.parameters ≡ count
  pub returns : is_used ≡ true → function.returns ≡ true
  pub not_main : is_main function ≡ false

abbrev mutual
  -- an expression whose value is used, or not; `printf` gives none
  pub IsWhole : Around → (is_used : Bool) → ResolvedExpressionTree → Type 0
  IsWhole around is_used (Constant value) = Unit {0}
  IsWhole around is_used (Variable v) = IsInScope around shapes.Scalar v
  IsWhole around is_used (Element v index) = IsInScope around shapes.Array v × IsWhole around true index
  IsWhole around is_used (Call function values) = IsSomeAnd (slice_get around.functions function)
      (IsCalled is_used (count_of values)) × AreWhole around values
  IsWhole around is_used ThreadNumber = Unit {0}
  IsWhole around is_used TeamSize = Unit {0}
  IsWhole around is_used (Print format values) = (is_used ≡ false) × IsFormat format (count_of values)
      × (count_of values ≤ 16) × AreWhole around values
  IsWhole around is_used (Unary o e) = IsWhole around true e
  IsWhole around is_used (Binary a o b) = IsWhole around true a × IsWhole around true b
  IsWhole around is_used (Conditional c a b) = IsWhole around true c × IsWhole around true a × IsWhole around true b
  IsWhole around is_used (Assign v o e) = IsInScope around shapes.Scalar v × IsWhole around true e
  IsWhole around is_used (AssignElement v index o e) = IsInScope around shapes.Array v × IsWhole around true index
      × IsWhole around true e
  IsWhole around is_used (Postfix v o) = IsInScope around shapes.Scalar v
  IsWhole around is_used (PostfixElement v index o) = IsInScope around shapes.Array v × IsWhole around true index

  -- the values of a call
  pub AreWhole : Around → ValuesTree → Type 0
  AreWhole around NoValues = Unit {0}
  AreWhole around (Value e rest) = IsWhole around true e × AreWhole around rest

abbrev pub IsWholeIfAny : Around → (is_used : Bool) → Option ResolvedExpressionTree → Type 0
IsWholeIfAny around is_used None = Unit {0}
IsWholeIfAny around is_used (Some e) = IsWhole around is_used e

-- ---- declarations

abbrev pub local_of : ResolvedDeclaratorTree → Local
local_of d = (d.variable.at, shape_of d.length)

abbrev pub declared : Around → ResolvedDeclaratorTree → Around
declared around d = with_locals around (local_of d ∷ [])

-- an array has an element (C17 6.7.6.2p1); a variable is in scope in its own initializer (C17 6.2.1p7)
abbrev pub AreWholeDeclarators : Around → List ResolvedDeclaratorTree → Type 0
AreWholeDeclarators around [] = Unit {0}
AreWholeDeclarators around (d ∷ ds) = IfSome d.length (λ length. 1 ≤ length) × IsWholeIfAny (declared around d) true
    d.initial × AreWholeDeclarators (declared around d) ds

abbrev pub after_declarators : Around → List ResolvedDeclaratorTree → Around
after_declarators around [] = around
after_declarators around (d ∷ ds) = after_declarators (declared around d) ds

-- ---- clauses

-- what the clauses of a construct may say (OpenMP API 5.2, chapters 5 and 10 to 12)
pub record Admitted : Type 0 where
  -- the value that it may have
  pub value : Option ValueClause
  pub shared : Bool
  pub copies : Bool
  pub reductions : Bool

abbrev pub of_parallel : Admitted
of_parallel = record { value = Some values.NumThreads; shared = true; copies = true; reductions = true }

abbrev pub of_task : Admitted
of_task = record { value = None; shared = true; copies = true; reductions = false }

abbrev pub of_region : RegionKind → Admitted
of_region kinds.Parallel = of_parallel
of_region kinds.Task = of_task

-- of a worksharing-loop construct, and of `sections`
abbrev pub of_worksharing : Admitted
of_worksharing = record { value = None; shared = false; copies = true; reductions = true }

abbrev pub nothing : Admitted
nothing = record { value = None; shared = false; copies = false; reductions = false }

abbrev pub of_construct : ConstructKind → Admitted
of_construct (constructs.Single nowait) = record { value = None; shared = false; copies = true; reductions = false }
of_construct constructs.Masked = record {
  value = Some values.Filter;
  shared = false;
  copies = false;
  reductions = false;
}
of_construct (constructs.Critical name) = nothing
of_construct (constructs.Atomic access) = nothing
of_construct constructs.Taskgroup = nothing

abbrev pub IsAdmittedCopy : Admitted → CopyKind → Type 0
IsAdmittedCopy admitted copies.Private = admitted.copies ≡ true
IsAdmittedCopy admitted copies.Firstprivate = admitted.copies ≡ true
IsAdmittedCopy admitted (copies.Reduction o) = admitted.reductions ≡ true

-- what is copied is one `int`; a private copy uses no original
abbrev pub IsWholeCopy : Around → CopyKind → (original : variables.Variable) → Type 0
IsWholeCopy around copies.Private original = Unit {0}
IsWholeCopy around copies.Firstprivate original = IsInScope around shapes.Scalar original
IsWholeCopy around (copies.Reduction o) original = IsInScope around shapes.Scalar original

-- a shared variable has any shape
abbrev pub IsShared : Around → variables.Variable → Type 0
IsShared around v = IsInScope around shapes.Scalar v ⊎ IsInScope around shapes.Array v

-- a clause, outside of its construct
abbrev pub IsWholeClause : Around → Admitted → ResolvedClauseTree → Type 0
IsWholeClause around admitted (ClauseValue kind e) = (admitted.value ≡ Some kind) × IsWhole around true e
IsWholeClause around admitted (Shared v) = (admitted.shared ≡ true) × IsShared around v
IsWholeClause around admitted (Copied kind original copy) = IsAdmittedCopy admitted kind × IsWholeCopy around kind
    original

abbrev pub AreWholeClauses : Around → Admitted → List ResolvedClauseTree → Type 0
AreWholeClauses around admitted clauses = All (IsWholeClause around admitted) clauses

-- no value is given
abbrev pub HaveNoValue : List ResolvedClauseTree → Type 0
HaveNoValue [] = Unit {0}
HaveNoValue (ClauseValue kind e ∷ rest) = ⊥
HaveNoValue (Shared v ∷ rest) = HaveNoValue rest
HaveNoValue (Copied kind original copy ∷ rest) = HaveNoValue rest

-- one value at most: `num_threads` and `filter` are unique (OpenMP API 5.2, sections 10.1.2 and 10.5.1), and no
-- other construct admits a value
abbrev pub HaveOneValueAtMost : List ResolvedClauseTree → Type 0
HaveOneValueAtMost [] = Unit {0}
HaveOneValueAtMost (ClauseValue kind e ∷ rest) = HaveNoValue rest
HaveOneValueAtMost (Shared v ∷ rest) = HaveOneValueAtMost rest
HaveOneValueAtMost (Copied kind original copy ∷ rest) = HaveOneValueAtMost rest

-- a `parallel` asks for a number of threads once at most; a `task` has no value
abbrev pub RegionAsksOnce : RegionKind → List ResolvedClauseTree → Type 0
RegionAsksOnce kinds.Parallel clauses = HaveOneValueAtMost clauses
RegionAsksOnce kinds.Task clauses = Unit {0}

-- the copies that clauses make, which are seen inside of the construct in place of the originals
abbrev pub copies_in : ResolvedClauseTree → List Local
copies_in (ClauseValue kind e) = []
copies_in (Shared v) = []
copies_in (Copied kind original copy) = scalar copy ∷ []

abbrev pub within : Around → List ResolvedClauseTree → Around
within around clauses = constructed false (with_locals around (flat_map copies_in clauses))

-- ---- regions

-- A `parallel` or a `task` takes the variables that it uses and that are declared before it begins, each once
-- and in the order of first sight. A variable is known by the byte where it is declared.
pub record IsRegion (start : ℕ) (clauses : List ResolvedClauseTree) (captures : List Capture)
    (body : ResolvedStatementTree) : Type 0 where
  pub taken : map captured_variable captures ≡ taken_variables start clauses body

-- ---- canonical loops (OpenMP API 5.2, section 4.4.1)

-- a step goes to the bound
abbrev pub IsStep : BinaryOperator → ℤ → Type 0
IsStep binaries.Less step = pos 0 <ℤ step
IsStep binaries.LessEqual step = pos 0 <ℤ step
IsStep binaries.Greater step = step <ℤ pos 0
IsStep binaries.GreaterEqual step = step <ℤ pos 0
IsStep _ step = ⊥

-- A bound may see the copy, which the loop then declares.
pub record IsWholeLoop (around : Around) (l : ResolvedLoopTree) : Type 0 where
  pub from : IsWhole (with_locals around (scalar l.variable ∷ [])) true l.from
  pub to : IsWhole (with_locals around (scalar l.variable ∷ [])) true l.to
  pub step : IsStep l.comparison l.step
  pub chunk : IfSome l.schedule.chunk (λ chunk. 1 ≤ chunk)

-- in the loop: the copies of the construct, and that of the iteration variable
abbrev pub iterated : Around → List ResolvedClauseTree → ResolvedLoopTree → Around
iterated around clauses l = constructed true (with_locals (within around clauses) (scalar l.variable ∷ []))

-- ---- updates (OpenMP API 5.2, section 15.8.4), whose `atomic` has no copies

abbrev pub IsWholeTarget : Around → variables.Variable → (index : Option ResolvedExpressionTree) → Type 0
IsWholeTarget around v None = IsInScope around shapes.Scalar v
IsWholeTarget around v (Some index) = IsInScope around shapes.Array v × IsWhole around true index

pub record IsWholeUpdate (around : Around) (u : ResolvedUpdateTree) : Type 0 where
  pub target : IsWholeTarget around u.variable u.index
  pub operand : IsWhole around true u.operand

-- ---- statements

abbrev pub IsWholeStart : Around → ResolvedStartTree → Type 0
IsWholeStart around StartNothing = Unit {0}
IsWholeStart around (StartExpression e) = IsWhole around false e
IsWholeStart around (StartDeclaration ds) = AreWholeDeclarators around ds

abbrev pub after_start : Around → ResolvedStartTree → Around
after_start around StartNothing = around
after_start around (StartExpression e) = around
after_start around (StartDeclaration ds) = after_declarators around ds

-- a function without a result returns no value (C17 6.8.6.4p1)
abbrev pub IsWholeReturn : Around → Option ResolvedExpressionTree → Type 0
IsWholeReturn around None = Unit {0}
IsWholeReturn around (Some e) = (around.returns ≡ true) × IsWhole around true e

abbrev pub IsWholeAlone : Around → alone.StandAlone → Type 0
IsWholeAlone around (alones.Flush vs) = All (IsShared around) vs
IsWholeAlone around _ = Unit {0}

-- behind an item of a block (C17 6.2.1p4)
abbrev pub after_item : Around → ResolvedStatementTree → Around
after_item around (Declaration at ds) = after_declarators around ds
after_item around _ = around

-- how many parts `sections` has
abbrev pub part_count : ResolvedPartsTree → ℕ
part_count NoParts = 0
part_count (Part items rest) = part_count rest + 1

-- one statement at least
abbrev pub HasItem : ResolvedStatementsTree → Type 0
HasItem NoStatements = ⊥
HasItem (Statement s rest) = Unit {0}

abbrev mutual
  pub IsWholeStatement : Around → ResolvedStatementTree → Type 0
  IsWholeStatement around (Declaration at ds) = AreWholeDeclarators around ds
  IsWholeStatement around (Block at items) = AreWholeItems around items
  IsWholeStatement around (Empty at) = Unit {0}
  IsWholeStatement around (Expression at e) = IsWhole around false e
  IsWholeStatement around (If at c s) = IsWhole around true c × IsWholeStatement around s
  IsWholeStatement around (IfElse at c s t) = IsWhole around true c × IsWholeStatement around s × IsWholeStatement
      around t
  IsWholeStatement around (While at c s) = IsWhole around true c × IsWholeStatement (repeated around) s
  IsWholeStatement around (Do at s c) = IsWholeStatement (repeated around) s × IsWhole around true c
  IsWholeStatement around (For at start condition step s) =
      IsWholeStart around start
      × IsWholeIfAny (after_start around start) true condition
      × IsWholeIfAny (after_start around start) false step
      × IsWholeStatement (repeated (after_start around start)) s
  IsWholeStatement around (Return at value) = (around.in_construct ≡ false) × IsWholeReturn around value
  IsWholeStatement around (Break at) = around.breaks ≡ true
  IsWholeStatement around (Continue at) = around.continues ≡ true
  IsWholeStatement around (Region at kind clauses captures s) =
      AreWholeClauses around (of_region kind) clauses × IsRegion at.start clauses captures s × IsWholeStatement
      (within around clauses) s × RegionAsksOnce kind clauses
  IsWholeStatement around (Loop at clauses nowait l s) =
      AreWholeClauses around of_worksharing clauses × IsWholeLoop around l × IsWholeStatement
      (iterated around clauses l) s
  IsWholeStatement around (Sections at clauses nowait parts) =
      AreWholeClauses around of_worksharing clauses × (1 ≤ part_count parts) × (part_count parts ≤ 256)
      × AreWholeParts (within around clauses) parts
  IsWholeStatement around (Construct at kind clauses s) = AreWholeClauses around (of_construct kind) clauses
      × IsWholeStatement (within around clauses) s × HaveOneValueAtMost clauses
  IsWholeStatement around (Update at u) = IsWholeUpdate (within around []) u
  IsWholeStatement around (StandAlone at directive) = IsWholeAlone around directive

  -- the items of a block, each in scope of those before it
  pub AreWholeItems : Around → ResolvedStatementsTree → Type 0
  AreWholeItems around NoStatements = Unit {0}
  AreWholeItems around (Statement s rest) = IsWholeStatement around s × AreWholeItems (after_item around s) rest

  -- the parts of `sections`, none of which is empty
  pub AreWholeParts : Around → ResolvedPartsTree → Type 0
  AreWholeParts around NoParts = Unit {0}
  AreWholeParts around (Part items rest) = HasItem items × AreWholeItems around items × AreWholeParts around rest

-- ---- a whole source

-- where the body of a function begins: parameters and body are one scope (C17 6.2.1p4)
abbrev pub at_function : List GlobalVariable → List ResolvedFunctionTree → ResolvedFunctionTree → Around
at_function globals functions function = record {
  globals = globals;
  functions = functions;
  locals = map scalar function.parameters;
  returns = function.returns;
  breaks = false;
  continues = false;
  in_construct = false;
}

pub record IsWholeFunction (globals : List GlobalVariable) (functions : List ResolvedFunctionTree)
    (function : ResolvedFunctionTree) : Type 0 where
  pub parameters : length function.parameters ≤ 16
  pub body : AreWholeItems (at_function globals functions function) function.body

-- how many cells a global has
abbrev pub cells_of : Option ℕ → ℕ
cells_of None = 1
cells_of (Some length) = length

abbrev pub cell_count : GlobalVariable → ℕ
cell_count global = cells_of global.length

-- where a program starts (C17 5.1.2.2.1)
pub record IsMain (function : ResolvedFunctionTree) : Type 0 where
  pub named : is_main function ≡ true
  pub parameters : function.parameters ≡ []
  pub returns : function.returns ≡ true

abbrev pub same_name : ResolvedFunctionTree → ResolvedFunctionTree → Bool
same_name a b = bytes_eq a.name b.name

-- a resolved source, within the limits on globals and functions
pub record IsWholeTree (tree : ResolvedTree) : Type 0 where
  pub cells : sum_by cell_count tree.globals ≤ 65536
  pub elements : All (λ global. 1 ≤ cell_count global) tree.globals
  pub count : length tree.functions ≤ 256
  pub names : IsDistinct same_name tree.functions
  pub main : Any IsMain tree.functions
  pub functions : All (IsWholeFunction tree.globals tree.functions) tree.functions

-- a whole tree has a `main`
abbrev pub WholeTreesHaveMain : Type 0
WholeTreesHaveMain = (tree : ResolvedTree) → IsWholeTree tree → Any (λ function. is_main function ≡ true) tree.functions
