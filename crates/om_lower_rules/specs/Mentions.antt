-- What a whole function mentions, its regions too, in the order of the text: formats, names of critical
-- regions, lines of atomic reads and writes, declared variables.
use Rattle.std.specs.Prelude.{◌≡◌, ℕ, List, [], ◌∷◌, ◌++◌, Option, None, Some, fold, map, option_map}
use Rattle.std.specs.BTreeMap.{insert_entry}
use Rattle.std.specs.List.{flat_map}
use Rattle.std.specs.Ordering.{nat_cmp}
use Rattle.std.specs.Str.{bytes_eq}
use Rattle.om_code.specs.declared.raw.Piece as texts
use Rattle.om_code.specs.declared.raw.Piece.TheVariants as pieces
use Rattle.om_lexer.specs.declared.token.Span.{Span}
use Rattle.om_scope_tree.specs.declared.resolved.AtomicAccess.{AtomicAccess}
use Rattle.om_scope_tree.specs.declared.resolved.ConstructKind.{ConstructKind}
use Rattle.om_scope_tree.specs.declared.resolved.ConstructKind.TheVariants as constructs
use Rattle.om_scope_tree.specs.Formats.{Piece, Bytes, Value, pieces_of}
use Rattle.om_scope_tree.specs.ResolvedTree as trees
use Rattle.om_scope_tree.specs.ResolvedTree.{ResolvedExpressionTree, Constant, Variable, Element, Call, ThreadNumber}
use Rattle.om_scope_tree.specs.ResolvedTree.{TeamSize, Print, Unary, Binary, Conditional, Assign, AssignElement, Postfix}
use Rattle.om_scope_tree.specs.ResolvedTree.{PostfixElement, ValuesTree, NoValues, ResolvedDeclaratorTree}
use Rattle.om_scope_tree.specs.ResolvedTree.{ResolvedClauseTree, ClauseValue, Shared, Copied, ResolvedLoopTree}
use Rattle.om_scope_tree.specs.ResolvedTree.{ResolvedUpdateTree, ResolvedStartTree, StartNothing, StartExpression}
use Rattle.om_scope_tree.specs.ResolvedTree.{StartDeclaration, ResolvedStatementTree, Declaration, Block, Empty}
use Rattle.om_scope_tree.specs.ResolvedTree.{Expression, If, IfElse, While, Do, For, Return, Break, Continue, Region}
use Rattle.om_scope_tree.specs.ResolvedTree.{Loop, Sections, Construct, Update, StandAlone, ResolvedStatementsTree}
use Rattle.om_scope_tree.specs.ResolvedTree.{NoStatements, Statement, ResolvedPartsTree, NoParts, Part}
use Rattle.om_scope_tree.specs.ResolvedTree.{ResolvedFunctionTree, ResolvedTree}
use Rattle.om_lower_rules.specs.Slots.{Extent, extent_of}
use Rattle.om_lower_rules.specs.Tables.{table_of}

-- what is looked for: in an expression, by a declared name, and by a construct and the span where it begins
pub record Mention (A : Type 0) : Type 0 where
  pub in_expression : ResolvedExpressionTree → List A
  pub by_declarator : ResolvedDeclaratorTree → List A
  pub by_construct : Span → ConstructKind → List A

abbrev pub perhaps_mentioned : {A : Type 0} → Mention A → Option ResolvedExpressionTree → List A
perhaps_mentioned m None = []
perhaps_mentioned m (Some e) = m.in_expression e

abbrev pub declarator_mentioned : {A : Type 0} → Mention A → ResolvedDeclaratorTree → List A
declarator_mentioned m d = m.by_declarator d ++ perhaps_mentioned m d.initial

abbrev pub start_mentioned : {A : Type 0} → Mention A → ResolvedStartTree → List A
start_mentioned m StartNothing = []
start_mentioned m (StartExpression e) = m.in_expression e
start_mentioned m (StartDeclaration ds) = flat_map (declarator_mentioned m) ds

abbrev pub clause_mentioned : {A : Type 0} → Mention A → ResolvedClauseTree → List A
clause_mentioned m (ClauseValue kind e) = m.in_expression e
clause_mentioned m (Shared v) = []
clause_mentioned m (Copied kind original copy) = []

abbrev pub loop_mentioned : {A : Type 0} → Mention A → ResolvedLoopTree → List A
loop_mentioned m l = m.in_expression l.from ++ m.in_expression l.to

abbrev pub update_mentioned : {A : Type 0} → Mention A → ResolvedUpdateTree → List A
update_mentioned m u = perhaps_mentioned m u.index ++ m.in_expression u.operand

unfoldable mutual
  pub mentioned : {A : Type 0} → Mention A → ResolvedStatementTree → List A
  mentioned m (Declaration at ds) = flat_map (declarator_mentioned m) ds
  mentioned m (Block at items) = all_mentioned m items
  mentioned m (Empty at) = []
  mentioned m (Expression at e) = m.in_expression e
  mentioned m (If at c s) = m.in_expression c ++ mentioned m s
  mentioned m (IfElse at c s t) = m.in_expression c ++ (mentioned m s ++ mentioned m t)
  mentioned m (While at c s) = m.in_expression c ++ mentioned m s
  mentioned m (Do at s c) = mentioned m s ++ m.in_expression c
  mentioned m (For at start condition step s) =
      start_mentioned m start ++ (perhaps_mentioned m condition ++ (perhaps_mentioned m step ++ mentioned m s))
  mentioned m (Return at value) = perhaps_mentioned m value
  mentioned m (Break at) = []
  mentioned m (Continue at) = []
  mentioned m (Region at kind clauses captures s) = flat_map (clause_mentioned m) clauses ++ mentioned m s
  mentioned m (Loop at clauses nowait l s) = flat_map (clause_mentioned m) clauses
      ++ (loop_mentioned m l ++ mentioned m s)
  mentioned m (Sections at clauses nowait parts) = flat_map (clause_mentioned m) clauses ++ parts_mentioned m parts
  mentioned m (Construct at kind clauses s) = m.by_construct at kind ++ (flat_map (clause_mentioned m) clauses
      ++ mentioned m s)
  mentioned m (Update at u) = update_mentioned m u
  mentioned m (StandAlone at directive) = []

  pub all_mentioned : {A : Type 0} → Mention A → ResolvedStatementsTree → List A
  all_mentioned m NoStatements = []
  all_mentioned m (Statement s rest) = mentioned m s ++ all_mentioned m rest

  pub parts_mentioned : {A : Type 0} → Mention A → ResolvedPartsTree → List A
  parts_mentioned m NoParts = []
  parts_mentioned m (Part items rest) = all_mentioned m items ++ parts_mentioned m rest

abbrev pub function_mentioned : {A : Type 0} → Mention A → ResolvedFunctionTree → List A
function_mentioned m f = all_mentioned m f.body

abbrev pub tree_mentioned : {A : Type 0} → Mention A → ResolvedTree → List A
tree_mentioned m tree = flat_map (function_mentioned m) tree.functions

-- ---- formats of `printf`

unfoldable mutual
  pub expression_formats : ResolvedExpressionTree → List (List ℕ)
  expression_formats (Constant value) = []
  expression_formats (Variable v) = []
  expression_formats (Element v index) = expression_formats index
  expression_formats (Call function values) = values_formats values
  expression_formats ThreadNumber = []
  expression_formats TeamSize = []
  expression_formats (Print format values) = format ∷ values_formats values
  expression_formats (Unary o e) = expression_formats e
  expression_formats (Binary a o b) = expression_formats a ++ expression_formats b
  expression_formats (Conditional c a b) = expression_formats c ++ (expression_formats a ++ expression_formats b)
  expression_formats (Assign v o e) = expression_formats e
  expression_formats (AssignElement v index o e) = expression_formats index ++ expression_formats e
  expression_formats (Postfix v o) = []
  expression_formats (PostfixElement v index o) = expression_formats index

  pub values_formats : ValuesTree → List (List ℕ)
  values_formats NoValues = []
  values_formats (trees.Value e rest) = expression_formats e ++ values_formats rest

abbrev pub format_mention : Mention (List ℕ)
format_mention = record { in_expression = expression_formats; by_declarator = λ d. []; by_construct = λ at kind. [] }

-- the formats of a program, each once, by their numbers
abbrev pub formats_of : ResolvedTree → List (List ℕ)
formats_of tree = table_of bytes_eq (tree_mentioned format_mention tree)

-- what PRINT writes for a format is its pieces
abbrev pub text_piece : Piece → texts.Piece
text_piece (Bytes text) = pieces.Bytes text
text_piece Value = pieces.Value

abbrev pub IsTextOf : List ℕ → List texts.Piece → Type 0
IsTextOf format text = option_map (map text_piece) (pieces_of format) ≡ Some text

-- ---- names of critical regions

-- the unnamed region has the name without bytes
abbrev pub lock_name : Option (List ℕ) → List ℕ
lock_name None = []
lock_name (Some name) = name

abbrev pub construct_locks : ConstructKind → List (List ℕ)
construct_locks (constructs.Critical name) = lock_name name ∷ []
construct_locks _ = []

abbrev pub lock_mention : Mention (List ℕ)
lock_mention = record { in_expression = λ e. []; by_declarator = λ d. []; by_construct = λ at kind. construct_locks kind }

-- those of a program, each once, by their numbers
abbrev pub locks_of : ResolvedTree → List (List ℕ)
locks_of tree = table_of bytes_eq (tree_mentioned lock_mention tree)

-- ---- atomic reads and writes

-- the line of its directive, and which of both it is
abbrev pub construct_accesses : Span → ConstructKind → List (ℕ × AtomicAccess)
construct_accesses at (constructs.Atomic access) = (at.line, access) ∷ []
construct_accesses at _ = []

abbrev pub access_mention : Mention (ℕ × AtomicAccess)
access_mention = record { in_expression = λ e. []; by_declarator = λ d. []; by_construct = construct_accesses }

-- a table by lines, with one more
abbrev pub with_access : List (ℕ × AtomicAccess) → ℕ × AtomicAccess → List (ℕ × AtomicAccess)
with_access lines one = insert_entry nat_cmp lines one.0 one.1

-- those of a program, by their lines: no two directives have one line
abbrev pub atomic_lines : ResolvedTree → List (ℕ × AtomicAccess)
atomic_lines tree = fold with_access [] (tree_mentioned access_mention tree)

-- ---- declared variables

abbrev pub extent_mention : Mention Extent
extent_mention = record { in_expression = λ e. []; by_declarator = λ d. extent_of d ∷ []; by_construct = λ at kind. [] }

-- how many cells the declared variables of a function have
abbrev pub extents_of : ResolvedFunctionTree → List Extent
extents_of f = function_mentioned extent_mention f
