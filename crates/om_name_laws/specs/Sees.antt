-- Which resolved trees see their names: each use of a variable stands where a name means this variable. That is the
-- innermost variable of the name that is in scope there (C17 6.2.1p4), a copy in its construct instead of the original
-- (OpenMP API 5.2, section 5.3), and the first global of the name where no variable of the function has it.
use Rattle.std.specs.Prelude.{◌≡◌, ◌⊎◌, ℕ, List, [], ◌∷◌, Option, None, Some, All, ◌+◌, option_map, if◌then◌else◌}
use Rattle.std.specs.Str.{bytes_eq}
use Rattle.om_scope_tree.specs.declared.resolved.Capture.{Capture}
use Rattle.om_scope_tree.specs.declared.resolved.ConstructKind.{ConstructKind}
use Rattle.om_scope_tree.specs.declared.resolved.ConstructKind.TheVariants as constructs
use Rattle.om_scope_tree.specs.declared.resolved.CopyKind.{CopyKind}
use Rattle.om_scope_tree.specs.declared.resolved.CopyKind.TheVariants as copies
use Rattle.om_scope_tree.specs.declared.resolved.GlobalVariable.{GlobalVariable}
use Rattle.om_scope_tree.specs.declared.resolved.LocalVariable.{LocalVariable}
use Rattle.om_scope_tree.specs.declared.resolved.StandAlone as alone
use Rattle.om_scope_tree.specs.declared.resolved.StandAlone.TheVariants as alones
use Rattle.om_scope_tree.specs.declared.resolved.Variable as variables
use Rattle.om_scope_tree.specs.declared.resolved.Variable.TheVariants as named
use Rattle.om_scope_tree.specs.ResolvedTree.{ResolvedExpressionTree, Constant, Variable, Element, Call, ThreadNumber}
use Rattle.om_scope_tree.specs.ResolvedTree.{TeamSize, Print, Unary, Binary, Conditional, Assign, AssignElement}
use Rattle.om_scope_tree.specs.ResolvedTree.{Postfix}
use Rattle.om_scope_tree.specs.ResolvedTree.{PostfixElement, ValuesTree, NoValues, Value, ResolvedDeclaratorTree}
use Rattle.om_scope_tree.specs.ResolvedTree.{ResolvedClauseTree, ClauseValue, Shared, Copied, ResolvedLoopTree}
use Rattle.om_scope_tree.specs.ResolvedTree.{ResolvedStartTree, StartNothing, StartExpression, StartDeclaration}
use Rattle.om_scope_tree.specs.ResolvedTree.{ResolvedUpdateTree, ResolvedStatementTree, Declaration, Block, Empty}
use Rattle.om_scope_tree.specs.ResolvedTree.{Expression, If, IfElse, While, Do, For, Return, Break, Continue, Region}
use Rattle.om_scope_tree.specs.ResolvedTree.{Loop, Sections, Construct, Update, StandAlone, ResolvedStatementsTree}
use Rattle.om_scope_tree.specs.ResolvedTree.{NoStatements, Statement, ResolvedPartsTree, NoParts, Part}
use Rattle.om_scope_tree.specs.ResolvedTree.{ResolvedFunctionTree, ResolvedTree}

-- ---- what is in scope

-- a variable of a function that is in scope: its name, the byte where it is declared or copied, and how many elements
-- it has where it is an array
pub record Known : Type 0 where
  pub name : List ℕ
  pub at : ℕ
  pub length : Option ℕ

abbrev pub known_scalar : LocalVariable → Known
known_scalar v = record { name = v.name; at = v.at; length = None }

abbrev pub known_of : ResolvedDeclaratorTree → Known
known_of d = record { name = d.variable.name; at = d.variable.at; length = d.length }

-- the innermost variable of a name, among these, the innermost first
abbrev pub known_as : List ℕ → List Known → Option Known
known_as name [] = None
known_as name (k ∷ ks) = if bytes_eq name k.name then Some k else known_as name ks

-- the number of the first global of a name
abbrev pub global_as : List ℕ → List GlobalVariable → Option ℕ
global_as name [] = None
global_as name (g ∷ gs) = if bytes_eq name g.name then Some 0 else option_map (λ n. n + 1) (global_as name gs)

-- the name means this variable, where these are in scope
abbrev pub IsSeenAs : List GlobalVariable → List Known → List ℕ → variables.Variable → Type 0
IsSeenAs globals ks name (named.Global number) = (global_as name globals ≡ Some number) × (known_as name ks ≡ None)
IsSeenAs globals ks name (named.Local at) =
    (k : Known) × (k.at ≡ at) × (k.name ≡ name) × (known_as name ks ≡ Some k)

-- some name does
abbrev pub IsSeen : List GlobalVariable → List Known → variables.Variable → Type 0
IsSeen globals ks v = (name : List ℕ) × IsSeenAs globals ks name v

-- ---- expressions

abbrev mutual
  -- P of each variable that an expression uses
  pub EachUse : (P : variables.Variable → Type 0) → ResolvedExpressionTree → Type 0
  EachUse P (Constant value) = Unit {0}
  EachUse P (Variable v) = P v
  EachUse P (Element v index) = P v × EachUse P index
  EachUse P (Call function values) = EachUseIn P values
  EachUse P ThreadNumber = Unit {0}
  EachUse P TeamSize = Unit {0}
  EachUse P (Print format values) = EachUseIn P values
  EachUse P (Unary o e) = EachUse P e
  EachUse P (Binary a o b) = EachUse P a × EachUse P b
  EachUse P (Conditional c a b) = EachUse P c × EachUse P a × EachUse P b
  EachUse P (Assign v o e) = P v × EachUse P e
  EachUse P (AssignElement v index o e) = P v × EachUse P index × EachUse P e
  EachUse P (Postfix v o) = P v
  EachUse P (PostfixElement v index o) = P v × EachUse P index

  pub EachUseIn : (P : variables.Variable → Type 0) → ValuesTree → Type 0
  EachUseIn P NoValues = Unit {0}
  EachUseIn P (Value e rest) = EachUse P e × EachUseIn P rest

abbrev pub EachUseIfAny : (P : variables.Variable → Type 0) → Option ResolvedExpressionTree → Type 0
EachUseIfAny P None = Unit {0}
EachUseIfAny P (Some e) = EachUse P e

-- ---- parts of statements, in a source with these globals, where these variables are in scope

-- a variable is in scope in its own initializer (C17 6.2.1p7)
abbrev pub DeclaratorsSee : List GlobalVariable → List Known → List ResolvedDeclaratorTree → Type 0
DeclaratorsSee globals ks [] = Unit {0}
DeclaratorsSee globals ks (d ∷ ds) =
    EachUseIfAny (IsSeen globals (known_of d ∷ ks)) d.initial × DeclaratorsSee globals (known_of d ∷ ks) ds

abbrev pub after_declarators : List Known → List ResolvedDeclaratorTree → List Known
after_declarators ks [] = ks
after_declarators ks (d ∷ ds) = after_declarators (known_of d ∷ ks) ds

abbrev pub StartSees : List GlobalVariable → List Known → ResolvedStartTree → Type 0
StartSees globals ks StartNothing = Unit {0}
StartSees globals ks (StartExpression e) = EachUse (IsSeen globals ks) e
StartSees globals ks (StartDeclaration ds) = DeclaratorsSee globals ks ds

abbrev pub after_start : List Known → ResolvedStartTree → List Known
after_start ks StartNothing = ks
after_start ks (StartExpression e) = ks
after_start ks (StartDeclaration ds) = after_declarators ks ds

-- the original of a copy has its name; a private copy uses no original (OpenMP API 5.2, section 5.4.3)
abbrev pub CopySees : List GlobalVariable → List Known → CopyKind → variables.Variable → LocalVariable → Type 0
CopySees globals ks copies.Private original copy = Unit {0}
CopySees globals ks copies.Firstprivate original copy = IsSeenAs globals ks copy.name original
CopySees globals ks (copies.Reduction o) original copy = IsSeenAs globals ks copy.name original

-- a clause, outside of its construct
abbrev pub ClauseSees : List GlobalVariable → List Known → ResolvedClauseTree → Type 0
ClauseSees globals ks (ClauseValue kind e) = EachUse (IsSeen globals ks) e
ClauseSees globals ks (Shared v) = IsSeen globals ks v
ClauseSees globals ks (Copied kind original copy) = CopySees globals ks kind original copy

abbrev pub ClausesSee : List GlobalVariable → List Known → List ResolvedClauseTree → Type 0
ClausesSee globals ks [] = Unit {0}
ClausesSee globals ks (c ∷ cs) = ClauseSees globals ks c × ClausesSee globals ks cs

-- in a construct its copies are in scope
abbrev pub with_copies : List Known → List ResolvedClauseTree → List Known
with_copies ks [] = ks
with_copies ks (ClauseValue kind e ∷ cs) = with_copies ks cs
with_copies ks (Shared v ∷ cs) = with_copies ks cs
with_copies ks (Copied kind original copy ∷ cs) = with_copies (known_scalar copy ∷ ks) cs

-- no copy is made
abbrev pub HaveNoCopies : List ResolvedClauseTree → Type 0
HaveNoCopies [] = Unit {0}
HaveNoCopies (ClauseValue kind e ∷ cs) = HaveNoCopies cs
HaveNoCopies (Shared v ∷ cs) = HaveNoCopies cs
HaveNoCopies (Copied kind original copy ∷ cs) = ⊥

-- of the constructs round a statement `single` alone makes copies
abbrev pub CopiesFit : ConstructKind → List ResolvedClauseTree → Type 0
CopiesFit (constructs.Single nowait) cs = Unit {0}
CopiesFit _ cs = HaveNoCopies cs

-- what a region takes is seen outside of it
abbrev pub CapturesSee : List GlobalVariable → List Known → List Capture → Type 0
CapturesSee globals ks [] = Unit {0}
CapturesSee globals ks (c ∷ cs) = IsSeen globals ks (named.Local c.variable) × CapturesSee globals ks cs

-- what a `flush` lists is seen there
abbrev pub AllSeen : List GlobalVariable → List Known → List variables.Variable → Type 0
AllSeen globals ks [] = Unit {0}
AllSeen globals ks (v ∷ vs) = IsSeen globals ks v × AllSeen globals ks vs

abbrev pub AloneSees : List GlobalVariable → List Known → alone.StandAlone → Type 0
AloneSees globals ks (alones.Flush vs) = AllSeen globals ks vs
AloneSees globals ks _ = Unit {0}

-- the bounds of a loop are seen round it, or with its own variable where it declares that
abbrev pub BoundsSee : List GlobalVariable → List Known → ResolvedLoopTree → Type 0
BoundsSee globals ks l = EachUse (IsSeen globals ks) l.from × EachUse (IsSeen globals ks) l.to

abbrev pub LoopSees : List GlobalVariable → List Known → ResolvedLoopTree → Type 0
LoopSees globals ks l = BoundsSee globals ks l ⊎ BoundsSee globals (known_scalar l.variable ∷ ks) l

-- an update of an `atomic`
abbrev pub UpdateSees : List GlobalVariable → List Known → ResolvedUpdateTree → Type 0
UpdateSees globals ks u =
    IsSeen globals ks u.variable × EachUseIfAny (IsSeen globals ks) u.index × EachUse (IsSeen globals ks) u.operand

-- ---- statements; T is asked of what each region takes

-- behind an item of a block
abbrev pub after_item : List Known → ResolvedStatementTree → List Known
after_item ks (Declaration at ds) = after_declarators ks ds
after_item ks _ = ks

abbrev mutual
  pub StatementSees : (T : List Known → List Capture → Type 0) → List GlobalVariable → List Known →
      ResolvedStatementTree → Type 0
  StatementSees T globals ks (Declaration at ds) = DeclaratorsSee globals ks ds
  StatementSees T globals ks (Block at items) = ItemsSee T globals ks items
  StatementSees T globals ks (Empty at) = Unit {0}
  StatementSees T globals ks (Expression at e) = EachUse (IsSeen globals ks) e
  StatementSees T globals ks (If at c s) = EachUse (IsSeen globals ks) c × StatementSees T globals ks s
  StatementSees T globals ks (IfElse at c s t) =
      EachUse (IsSeen globals ks) c × StatementSees T globals ks s × StatementSees T globals ks t
  StatementSees T globals ks (While at c s) = EachUse (IsSeen globals ks) c × StatementSees T globals ks s
  StatementSees T globals ks (Do at s c) = StatementSees T globals ks s × EachUse (IsSeen globals ks) c
  StatementSees T globals ks (For at start condition step s) =
      StartSees globals ks start
      × EachUseIfAny (IsSeen globals (after_start ks start)) condition
      × EachUseIfAny (IsSeen globals (after_start ks start)) step
      × StatementSees T globals (after_start ks start) s
  StatementSees T globals ks (Return at value) = EachUseIfAny (IsSeen globals ks) value
  StatementSees T globals ks (Break at) = Unit {0}
  StatementSees T globals ks (Continue at) = Unit {0}
  StatementSees T globals ks (Region at kind clauses captures s) =
      ClausesSee globals ks clauses × T ks captures × StatementSees T globals (with_copies ks clauses) s
  -- the variable of a canonical loop is a copy of its own (OpenMP API 5.2, section 5.1.1)
  StatementSees T globals ks (Loop at clauses nowait l s) =
      ClausesSee globals ks clauses × LoopSees globals ks l
      × StatementSees T globals (known_scalar l.variable ∷ with_copies ks clauses) s
  StatementSees T globals ks (Sections at clauses nowait parts) =
      ClausesSee globals ks clauses × PartsSee T globals (with_copies ks clauses) parts
  StatementSees T globals ks (Construct at kind clauses s) =
      ClausesSee globals ks clauses × CopiesFit kind clauses × StatementSees T globals (with_copies ks clauses) s
  StatementSees T globals ks (Update at u) = UpdateSees globals ks u
  StatementSees T globals ks (StandAlone at directive) = AloneSees globals ks directive

  -- the items of a block, each in scope of those before it
  pub ItemsSee : (T : List Known → List Capture → Type 0) → List GlobalVariable → List Known → ResolvedStatementsTree →
      Type 0
  ItemsSee T globals ks NoStatements = Unit {0}
  ItemsSee T globals ks (Statement s rest) = StatementSees T globals ks s × ItemsSee T globals (after_item ks s) rest

  -- the parts of `sections`
  pub PartsSee : (T : List Known → List Capture → Type 0) → List GlobalVariable → List Known → ResolvedPartsTree → Type
      0
  PartsSee T globals ks NoParts = Unit {0}
  PartsSee T globals ks (Part items rest) = ItemsSee T globals ks items × PartsSee T globals ks rest

-- ---- a whole source

-- parameters and body are one scope (C17 6.2.1p4)
abbrev pub with_parameters : List Known → List LocalVariable → List Known
with_parameters ks [] = ks
with_parameters ks (v ∷ vs) = with_parameters (known_scalar v ∷ ks) vs

abbrev pub FunctionSees : (T : List Known → List Capture → Type 0) → List GlobalVariable → ResolvedFunctionTree → Type 0
FunctionSees T globals f = ItemsSee T globals (with_parameters [] f.parameters) f.body

abbrev pub SeesNames : ResolvedTree → Type 0
SeesNames tree = All (FunctionSees (CapturesSee tree.globals) tree.globals) tree.functions
