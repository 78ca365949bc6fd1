-- The bytes of a source that stand for something in its functions, in the order of the text.
use Rattle.std.specs.Prelude.{◌≡◌, ◌⊎◌, ℕ, ◌+◌, List, [], ◌∷◌, ◌++◌, length, map, slice_index, slice_range}
use Rattle.std.specs.List.{flat_map}
use Rattle.om_lexer.specs.declared.token.Span.{Span}
use Rattle.om_lexer.specs.declared.token.Token.{Token}
use Rattle.om_lexer.specs.declared.token.TokenKind.TheVariants as kinds
use Rattle.om_scope_tree.specs.declared.resolved.LocalVariable.{LocalVariable}
use Rattle.om_scope_tree.specs.ResolvedTree.{ResolvedDeclaratorTree, ResolvedClauseTree, ClauseValue, Shared, Copied}
use Rattle.om_scope_tree.specs.ResolvedTree.{ResolvedStartTree, StartNothing, StartExpression, StartDeclaration}
use Rattle.om_scope_tree.specs.ResolvedTree.{ResolvedStatementTree, Declaration, Block, Empty, Expression, If, IfElse}
use Rattle.om_scope_tree.specs.ResolvedTree.{While, Do, For, Return, Break, Continue, Region, Loop, Sections}
use Rattle.om_scope_tree.specs.ResolvedTree.{Construct, Update, StandAlone, ResolvedStatementsTree, NoStatements}
use Rattle.om_scope_tree.specs.ResolvedTree.{Statement, ResolvedPartsTree, NoParts, Part, ResolvedFunctionTree}
use Rattle.om_scope_tree.specs.ResolvedTree.{ResolvedTree}

pub data Place : Type 0 where
  -- a variable of the function is declared, or a copy is asked for
  Declared : LocalVariable → Place
  -- a `parallel` or a `task` begins
  Begun : Span → Place

-- ---- in the order of the text

abbrev pub declarator_place : ResolvedDeclaratorTree → Place
declarator_place d = Declared d.variable

-- C17 6.8.5.3: a `for` may declare variables
abbrev pub start_places : ResolvedStartTree → List Place
start_places StartNothing = []
start_places (StartExpression e) = []
start_places (StartDeclaration ds) = map declarator_place ds

-- the copy that a clause asks for (OpenMP API 5.2, sections 5.4 and 5.5.8)
abbrev pub clause_places : ResolvedClauseTree → List Place
clause_places (ClauseValue kind e) = []
clause_places (Shared v) = []
clause_places (Copied kind original copy) = Declared copy ∷ []

abbrev mutual
  pub statement_places : ResolvedStatementTree → List Place
  statement_places (Declaration at ds) = map declarator_place ds
  statement_places (Block at items) = statements_places items
  statement_places (Empty at) = []
  statement_places (Expression at e) = []
  statement_places (If at c s) = statement_places s
  statement_places (IfElse at c s t) = statement_places s ++ statement_places t
  statement_places (While at c s) = statement_places s
  statement_places (Do at s c) = statement_places s
  statement_places (For at start condition step s) = start_places start ++ statement_places s
  statement_places (Return at value) = []
  statement_places (Break at) = []
  statement_places (Continue at) = []
  statement_places (Region at kind clauses captures s) = Begun at ∷ (flat_map clause_places clauses ++ statement_places s)
  -- a canonical loop has a copy of its iteration variable (OpenMP API 5.2, section 5.1.1)
  statement_places (Loop at clauses nowait l s) = flat_map clause_places clauses
      ++ Declared l.variable ∷ statement_places s
  statement_places (Sections at clauses nowait parts) = flat_map clause_places clauses ++ parts_places parts
  statement_places (Construct at kind clauses s) = flat_map clause_places clauses ++ statement_places s
  statement_places (Update at u) = []
  statement_places (StandAlone at directive) = []

  pub statements_places : ResolvedStatementsTree → List Place
  statements_places NoStatements = []
  statements_places (Statement s rest) = statement_places s ++ statements_places rest

  pub parts_places : ResolvedPartsTree → List Place
  parts_places NoParts = []
  parts_places (Part items rest) = statements_places items ++ parts_places rest

abbrev pub function_places : ResolvedFunctionTree → List Place
function_places function = map Declared function.parameters ++ statements_places function.body

-- those of all functions of a source
abbrev pub tree_places : ResolvedTree → List Place
tree_places tree = flat_map function_places tree.functions

-- ---- at their bytes

abbrev pub byte_of : Place → ℕ
byte_of (Declared variable) = variable.at
byte_of (Begun at) = at.start

-- what the source has from there on: the name of the variable, or the `#` of the directive
abbrev pub StandsThere : (source : List ℕ) → Place → Type 0
StandsThere source (Declared v) = slice_range source v.at (v.at + length v.name) ≡ v.name
StandsThere source (Begun at) = slice_index source at.start ≡ 35

-- ---- at their tokens

-- the name of the variable, or the beginning of the directive
abbrev pub IsTokenOf : Place → Token → Type 0
IsTokenOf (Declared v) t = (t.kind ≡ kinds.Name v.name) × (v.at ≡ t.span.start)
IsTokenOf (Begun at) t = (t.kind ≡ kinds.DirectiveBegin) × (at.start ≡ t.span.start)

-- they stand at tokens among these, each at one of its own, in their order
unfoldable pub AreAmong : List Place → List Token → Type 0
AreAmong [] ts = Unit {0}
AreAmong (p ∷ ps) [] = ⊥
AreAmong (p ∷ ps) (t ∷ ts) = (IsTokenOf p t × AreAmong ps ts) ⊎ AreAmong (p ∷ ps) ts
