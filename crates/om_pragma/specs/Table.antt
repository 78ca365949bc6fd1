-- Which clauses a directive has: the table.
use Rattle.std.specs.Prelude.{◌≡◌, ◌≤◌, Bool, true, false, not, ◌&&◌, List, [], ◌∷◌, ◌++◌, map, Option, Some, None}
use Rattle.std.specs.List.{list_any}
use denote.Enum.Bare.{sameb}
use Rattle.om_lexer.specs.declared.token.Span.{Span}
use Rattle.om_lexer.specs.declared.token.Token.{Token}
use Rattle.om_pragma.specs.contracts.clause.ClauseKind.{the_type as the_clauses}
use Rattle.om_pragma.specs.declared.clause.Clause.{Clause}
use Rattle.om_pragma.specs.declared.clause.Clause.TheVariants as clause
use Rattle.om_pragma.specs.declared.clause.ClauseItem.{ClauseItem}
use Rattle.om_pragma.specs.declared.clause.ClauseKind.{ClauseKind}
use Rattle.om_pragma.specs.declared.clause.ClauseKind.TheVariants as clauses
use Rattle.om_pragma.specs.declared.tree.DirectiveKind.{DirectiveKind}
use Rattle.om_pragma.specs.declared.tree.DirectiveKind.TheVariants as directives
use Rattle.om_pragma.specs.declared.clause.Number.{Number}
use Rattle.om_pragma.specs.declared.tree.Directive.{Directive}
use Rattle.om_pragma.specs.declared.tree.DirectiveName.{DirectiveName}
use Rattle.om_pragma.specs.Expressions.{IsClosed}
use Rattle.om_pragma.specs.Kinds.{directive_kind}
use Rattle.om_pragma.specs.Spelling.{kind_of, directive_spelling}

-- the clauses that a directive can have; a combined one has those of both, but no `nowait`
abbrev pub clauses_of : DirectiveKind → List ClauseKind
clauses_of directives.Parallel = clauses.NumThreads ∷ clauses.Default ∷ clauses.Shared ∷ clauses.Private
    ∷ clauses.Firstprivate ∷ clauses.Reduction ∷ []
clauses_of directives.For = clauses.Schedule ∷ clauses.Private ∷ clauses.Firstprivate ∷ clauses.Reduction
    ∷ clauses.Nowait ∷ []
clauses_of directives.Sections = clauses.Private ∷ clauses.Firstprivate ∷ clauses.Reduction ∷ clauses.Nowait ∷ []
clauses_of directives.Section = []
clauses_of directives.Single = clauses.Private ∷ clauses.Firstprivate ∷ clauses.Nowait ∷ []
clauses_of directives.ParallelFor = clauses.NumThreads ∷ clauses.Default ∷ clauses.Shared ∷ clauses.Private
    ∷ clauses.Firstprivate ∷ clauses.Reduction ∷ clauses.Schedule ∷ []
clauses_of directives.ParallelSections = clauses.NumThreads ∷ clauses.Default ∷ clauses.Shared ∷ clauses.Private
    ∷ clauses.Firstprivate ∷ clauses.Reduction ∷ []
clauses_of directives.Masked = clauses.Filter ∷ []
clauses_of directives.Master = []
clauses_of directives.Critical = []
clauses_of directives.Atomic = clauses.Update ∷ clauses.Read ∷ clauses.Write ∷ clauses.SeqCst ∷ clauses.Relaxed ∷ []
clauses_of directives.Task = clauses.Default ∷ clauses.Shared ∷ clauses.Private ∷ clauses.Firstprivate ∷ []
clauses_of directives.Taskgroup = []
clauses_of directives.Barrier = []
clauses_of directives.Taskwait = []
clauses_of directives.Taskyield = []
clauses_of directives.Flush = []

-- whether two clauses are of one kind
unfoldable pub same_clause : ClauseKind → ClauseKind → Bool
same_clause = sameb the_clauses

-- a data clause can stand more than once
abbrev pub may_repeat : ClauseKind → Bool
may_repeat clauses.Shared = true
may_repeat clauses.Private = true
may_repeat clauses.Firstprivate = true
may_repeat clauses.Reduction = true
may_repeat _ = false

-- of `update`, `read` and `write` one can stand, and of `seq_cst` and `relaxed`: each stands for its group
abbrev pub group_of : ClauseKind → ClauseKind
group_of clauses.Read = clauses.Update
group_of clauses.Write = clauses.Update
group_of clauses.Relaxed = clauses.SeqCst
group_of k = k

-- whether a clause leaves no room for another behind it
abbrev pub excludes : ClauseKind → ClauseKind → Bool
excludes earlier later = not (may_repeat later) && same_clause (group_of earlier) (group_of later)

-- whether a directive can have a clause behind those before it
unfoldable pub may_stand : DirectiveName → List ClauseKind → ClauseKind → Bool
may_stand name before k = list_any (λ j. same_clause j k) (clauses_of (directive_kind name))
    && not (list_any (λ j. excludes j k) before)

-- a comma stands between two clauses, not before the first
abbrev pub IsBetween : {A : Type 0} → List A → Option Span → Type 0
IsBetween [] (Some comma) = ⊥
IsBetween _ _ = Unit {0}

-- the kinds of some clauses
abbrev pub kinds_of : {E : Type 0} → List (ClauseItem E) → List ClauseKind
kinds_of = map (λ i. kind_of i.clause)

-- a chunk is 1 or more
abbrev pub IsChunk : Option (Span × Number) → Type 0
IsChunk None = Unit {0}
IsChunk (Some chunk) = 1 ≤ chunk.1.value

-- a clause whose expression, if it has one, is such
abbrev pub IsClause : {E : Type 0} → (E → Type 0) → Clause E → Type 0
IsClause IsExpression (clause.Value k s v) = IsExpression v.expression
IsClause IsExpression (clause.Default s a) = Unit {0}
IsClause IsExpression (clause.Data k s l) = Unit {0}
IsClause IsExpression (clause.Reduction s r) = Unit {0}
IsClause IsExpression (clause.Schedule s a) = IsChunk a.chunk
IsClause IsExpression (clause.Plain k s) = Unit {0}

-- a clause as the directive can have it behind those before it
pub record IsItem {E : Type 0} (IsExpression : E → Type 0) (name : DirectiveName) (before : List (ClauseItem E))
    (i : ClauseItem E) : Type 0 where
  pub between : IsBetween before i.comma
  pub can_stand : may_stand name (kinds_of before) (kind_of i.clause) ≡ true
  pub formed : IsClause IsExpression i.clause

-- each of these is such, behind those before it
unfoldable pub EachBehind : {A : Type 0} → (List A → A → Type 0) → (before xs : List A) → Type 0
EachBehind P before [] = Unit {0}
EachBehind P before (x ∷ xs) = P before x × EachBehind P (before ++ x ∷ []) xs

-- a directive as the table has it, whose expressions are such
unfoldable pub IsDirective : {E : Type 0} → (E → Type 0) → Directive E → Type 0
IsDirective IsExpression d = EachBehind (IsItem IsExpression d.name) [] d.clauses

-- a directive of these tokens; its expressions are lists of tokens
pub record IsDirectiveOf (tokens : List Token) (d : Directive (List Token)) : Type 0 where
  pub formed : IsDirective IsClosed d
  pub spelled : directive_spelling (λ e. e) d ≡ tokens
