-- Which resolved trees have rows for all of their parts: those in which no part has the row `never`. `printf`
-- has no value, a jump is in a loop, a canonical loop has one of the four comparisons, and an `atomic` that
-- reads or writes is about an expression statement. Where `few` asks it, no call or `printf` has more than 16
-- values, and no `sections` more than 256 parts.
use Rattle.std.specs.Prelude.{◌≡◌, ◌≤◌, ℕ, Bool, true, false, List, All, Any, IfSome, IsSome}
use Rattle.om_scope_tree.specs.declared.resolved.ConstructKind.TheVariants as constructs
use Rattle.om_scope_tree.specs.declared.resolved.RegionKind.{RegionKind}
use Rattle.om_scope_tree.specs.declared.resolved.RegionKind.TheVariants as kinds
use Rattle.om_scope_tree.specs.Formats.{pieces_of}
use Rattle.om_scope_tree.specs.Uses.{is_main_function}
use Rattle.om_scope_tree.specs.ResolvedTree.{ResolvedExpressionTree, Element, Call, Print, Unary, Binary, Conditional}
use Rattle.om_scope_tree.specs.ResolvedTree.{Assign, AssignElement, PostfixElement, ValuesTree, NoValues, Value}
use Rattle.om_scope_tree.specs.ResolvedTree.{ResolvedDeclaratorTree, ResolvedClauseTree, ResolvedLoopTree, ResolvedUpdateTree}
use Rattle.om_scope_tree.specs.ResolvedTree.{ResolvedStartTree, StartNothing, StartExpression, StartDeclaration}
use Rattle.om_scope_tree.specs.ResolvedTree.{ResolvedStatementTree, Declaration, Block, Empty, Expression, If, IfElse}
use Rattle.om_scope_tree.specs.ResolvedTree.{While, Do, For, Return, Break, Continue, Region, Loop, Sections}
use Rattle.om_scope_tree.specs.ResolvedTree.{Construct, Update, StandAlone, ResolvedStatementsTree, NoStatements}
use Rattle.om_scope_tree.specs.ResolvedTree.{Statement, ResolvedPartsTree, NoParts, Part, ResolvedFunctionTree}
use Rattle.om_scope_tree.specs.ResolvedTree.{ResolvedTree}
use Rattle.om_scope_tree.specs.Whole.{part_count}
use Rattle.om_lower_rules.specs.Bodies.{BodyTree, FunctionBody, RegionBody, bodies_of}
use Rattle.om_lower_rules.specs.Expressions.{value_count}
use Rattle.om_lower_rules.specs.Mentions.{formats_of}
use Rattle.om_lower_rules.specs.Operators.{comparison_of}
use Rattle.om_lower_rules.specs.Statements.{clause_value}

-- so many are few enough, where that is asked
abbrev pub IsWithin : (few : Bool) → (limit count : ℕ) → Type 0
IsWithin true limit count = count ≤ limit
IsWithin false limit count = Unit {0}

abbrev mutual
  -- an expression whose value is used; a call has 16 values at most
  pub ValueIsCoded : (few : Bool) → ResolvedExpressionTree → Type 0
  ValueIsCoded few (Element a j) = ValueIsCoded few j
  ValueIsCoded few (Call function es) = IsWithin few 16 (value_count es) × ValuesAreCoded few es
  ValueIsCoded few (Print format es) = ⊥
  ValueIsCoded few (Unary operator e) = ValueIsCoded few e
  ValueIsCoded few (Binary a operator b) = ValueIsCoded few a × ValueIsCoded few b
  ValueIsCoded few (Conditional c a b) = ValueIsCoded few c × ValueIsCoded few a × ValueIsCoded few b
  ValueIsCoded few (Assign x operator e) = ValueIsCoded few e
  ValueIsCoded few (AssignElement a j operator e) = ValueIsCoded few j × ValueIsCoded few e
  ValueIsCoded few (PostfixElement a j operator) = ValueIsCoded few j
  ValueIsCoded few _ = Unit {0}

  pub ValuesAreCoded : (few : Bool) → ValuesTree → Type 0
  ValuesAreCoded few NoValues = Unit {0}
  ValuesAreCoded few (Value e rest) = ValueIsCoded few e × ValuesAreCoded few rest

-- the values of a call, or of a `printf`
abbrev pub CallIsCoded : (few : Bool) → ValuesTree → Type 0
CallIsCoded few es = IsWithin few 16 (value_count es) × ValuesAreCoded few es

-- an expression whose value nothing uses
abbrev pub EffectIsCoded : (few : Bool) → ResolvedExpressionTree → Type 0
EffectIsCoded few (Print format es) = CallIsCoded few es
EffectIsCoded few e = ValueIsCoded few e

abbrev pub DeclaratorIsCoded : (few : Bool) → ResolvedDeclaratorTree → Type 0
DeclaratorIsCoded few d = IfSome d.initial (ValueIsCoded few)

abbrev pub StartIsCoded : (few : Bool) → ResolvedStartTree → Type 0
StartIsCoded few StartNothing = Unit {0}
StartIsCoded few (StartExpression e) = EffectIsCoded few e
StartIsCoded few (StartDeclaration ds) = All (DeclaratorIsCoded few) ds

abbrev pub LoopIsCoded : (few : Bool) → ResolvedLoopTree → Type 0
LoopIsCoded few loop = IsSome (comparison_of loop.comparison) × ValueIsCoded few loop.from × ValueIsCoded few loop.to

abbrev pub UpdateIsCoded : (few : Bool) → ResolvedUpdateTree → Type 0
UpdateIsCoded few u = IfSome u.index (ValueIsCoded few) × ValueIsCoded few u.operand

abbrev pub AssignmentIsCoded : (few : Bool) → ResolvedStatementTree → Type 0
AssignmentIsCoded few (Expression first e) = EffectIsCoded few e
AssignmentIsCoded few _ = ⊥

-- what stands in the place of a region: a `parallel` may ask for a number of threads
abbrev pub RegionIsCoded : (few : Bool) → RegionKind → List ResolvedClauseTree → Type 0
RegionIsCoded few kinds.Parallel clauses = IfSome (clause_value clauses) (ValueIsCoded few)
RegionIsCoded few kinds.Task clauses = Unit {0}

abbrev mutual
  -- a statement, where a `break` or a `continue` can go somewhere or not; the bodies of its regions stand by
  -- themselves, and `sections` have 256 parts at most
  pub StatementIsCoded : (few breaks continues : Bool) → ResolvedStatementTree → Type 0
  StatementIsCoded few breaks continues (Declaration first ds) = All (DeclaratorIsCoded few) ds
  StatementIsCoded few breaks continues (Block first items) = StatementsAreCoded few breaks continues items
  StatementIsCoded few breaks continues (Empty first) = Unit {0}
  StatementIsCoded few breaks continues (Expression first e) = EffectIsCoded few e
  StatementIsCoded few breaks continues (If first c s) = ValueIsCoded few c × StatementIsCoded few breaks continues s
  StatementIsCoded few breaks continues (IfElse first c s t) =
      ValueIsCoded few c × StatementIsCoded few breaks continues s × StatementIsCoded few breaks continues t
  StatementIsCoded few breaks continues (While first c s) = ValueIsCoded few c × StatementIsCoded few true true s
  StatementIsCoded few breaks continues (Do first s c) = StatementIsCoded few true true s × ValueIsCoded few c
  StatementIsCoded few breaks continues (For first start c step s) =
      StartIsCoded few start × IfSome c (ValueIsCoded few) × IfSome step (EffectIsCoded few)
      × StatementIsCoded few true true s
  StatementIsCoded few breaks continues (Return first e) = IfSome e (ValueIsCoded few)
  StatementIsCoded few breaks continues (Break first) = breaks ≡ true
  StatementIsCoded few breaks continues (Continue first) = continues ≡ true
  StatementIsCoded few breaks continues (Region first kind clauses captures s) = RegionIsCoded few kind clauses
  StatementIsCoded few breaks continues (Loop first clauses nowait loop s) =
      LoopIsCoded few loop × StatementIsCoded few false true s
  StatementIsCoded few breaks continues (Sections first clauses nowait sections) =
      IsWithin few 256 (part_count sections) × PartsAreCoded few sections
  StatementIsCoded few breaks continues (Construct first (constructs.Atomic access) clauses s) = AssignmentIsCoded few s
  StatementIsCoded few breaks continues (Construct first constructs.Masked clauses s) =
      IfSome (clause_value clauses) (ValueIsCoded few) × StatementIsCoded few false false s
  StatementIsCoded few breaks continues (Construct first kind clauses s) = StatementIsCoded few false false s
  StatementIsCoded few breaks continues (Update first u) = UpdateIsCoded few u
  StatementIsCoded few breaks continues (StandAlone first directive) = Unit {0}

  pub StatementsAreCoded : (few breaks continues : Bool) → ResolvedStatementsTree → Type 0
  StatementsAreCoded few breaks continues NoStatements = Unit {0}
  StatementsAreCoded few breaks continues (Statement s rest) =
      StatementIsCoded few breaks continues s × StatementsAreCoded few breaks continues rest

  -- the parts of `sections`
  pub PartsAreCoded : (few : Bool) → ResolvedPartsTree → Type 0
  PartsAreCoded few NoParts = Unit {0}
  PartsAreCoded few (Part items rest) = StatementsAreCoded few false false items × PartsAreCoded few rest

-- a body, which no `break` or `continue` leaves
abbrev pub BodyIsCoded : (few : Bool) → ResolvedFunctionTree → BodyTree → Type 0
BodyIsCoded few f FunctionBody = StatementsAreCoded few false false f.body
BodyIsCoded few f (RegionBody first kind clauses captures s) = StatementIsCoded few false false s

-- a tree: each of its bodies has code, each of its formats is one, and there is a `main`
pub record TreeIsCoded (few : Bool) (tree : ResolvedTree) : Type 0 where
  pub bodies : All (λ b. BodyIsCoded few b.function b.tree) (bodies_of tree)
  pub formats : All (λ format. IsSome (pieces_of format)) (formats_of tree)
  pub main : Any (λ function. is_main_function function ≡ true) tree.functions

-- ---- what has code, with values and parts within their limits

abbrev pub ValueHasCode : ResolvedExpressionTree → Type 0
ValueHasCode = ValueIsCoded true

abbrev pub ValuesHaveCode : ValuesTree → Type 0
ValuesHaveCode = ValuesAreCoded true

abbrev pub CallHasCode : ValuesTree → Type 0
CallHasCode = CallIsCoded true

abbrev pub EffectHasCode : ResolvedExpressionTree → Type 0
EffectHasCode = EffectIsCoded true

abbrev pub DeclaratorHasCode : ResolvedDeclaratorTree → Type 0
DeclaratorHasCode = DeclaratorIsCoded true

abbrev pub StartHasCode : ResolvedStartTree → Type 0
StartHasCode = StartIsCoded true

abbrev pub LoopHasCode : ResolvedLoopTree → Type 0
LoopHasCode = LoopIsCoded true

abbrev pub UpdateHasCode : ResolvedUpdateTree → Type 0
UpdateHasCode = UpdateIsCoded true

abbrev pub AssignmentHasCode : ResolvedStatementTree → Type 0
AssignmentHasCode = AssignmentIsCoded true

abbrev pub StatementHasCode : (breaks continues : Bool) → ResolvedStatementTree → Type 0
StatementHasCode = StatementIsCoded true

abbrev pub StatementsHaveCode : (breaks continues : Bool) → ResolvedStatementsTree → Type 0
StatementsHaveCode = StatementsAreCoded true

abbrev pub PartsHaveCode : ResolvedPartsTree → Type 0
PartsHaveCode = PartsAreCoded true

abbrev pub BodyHasCode : ResolvedFunctionTree → BodyTree → Type 0
BodyHasCode = BodyIsCoded true

abbrev pub TreeHasCode : ResolvedTree → Type 0
TreeHasCode = TreeIsCoded true
