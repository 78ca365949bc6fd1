-- How the words of directive lines are spelled.
use Rattle.std.specs.Prelude.{Bool, true, false, List, [], ◌∷◌, Option, Some, None, bytes_eq, codes, if◌then◌else◌}
use denote.Enum.Bare.{sameb}
use Rattle.om_lexer.specs.contracts.token.Keyword.{the_type as the_keywords}
use Rattle.om_lexer.specs.contracts.token.Punctuator.{the_type as the_punctuators}
use Rattle.om_lexer.specs.declared.token.Keyword.{Keyword}
use Rattle.om_lexer.specs.declared.token.Keyword.TheVariants as keywords
use Rattle.om_lexer.specs.declared.token.Punctuator.{Punctuator}
use Rattle.om_lexer.specs.declared.token.Punctuator.TheVariants as punctuators
use Rattle.om_lexer.specs.declared.token.TokenKind.{TokenKind}
use Rattle.om_lexer.specs.declared.token.TokenKind.TheVariants as kinds
use Rattle.om_pragma.specs.declared.clause.ClauseKind.{ClauseKind}
use Rattle.om_pragma.specs.declared.clause.ClauseKind.TheVariants as clauses
use Rattle.om_pragma.specs.declared.clause.ReductionOperator.{ReductionOperator}
use Rattle.om_pragma.specs.declared.clause.ReductionOperator.TheVariants as operators
use Rattle.om_pragma.specs.declared.clause.ScheduleKind.{ScheduleKind}
use Rattle.om_pragma.specs.declared.clause.ScheduleKind.TheVariants as schedules
use Rattle.om_pragma.specs.declared.clause.Sharing.{Sharing}
use Rattle.om_pragma.specs.declared.clause.Sharing.TheVariants as sharings
use Rattle.om_pragma.specs.declared.tree.DirectiveKind.{DirectiveKind}
use Rattle.om_pragma.specs.declared.tree.DirectiveKind.TheVariants as directives

-- whether two punctuators are one
unfoldable pub same_mark : Punctuator → Punctuator → Bool
same_mark = sameb the_punctuators

-- whether two keywords are one
unfoldable pub same_keyword : Keyword → Keyword → Bool
same_keyword = sameb the_keywords

-- whether two tokens that are always spelled alike are the same
abbrev pub same_kind : TokenKind → TokenKind → Bool
same_kind (kinds.Name a) (kinds.Name b) = bytes_eq a b
same_kind (kinds.Keyword a) (kinds.Keyword b) = same_keyword a b
same_kind (kinds.Punctuator a) (kinds.Punctuator b) = same_mark a b
same_kind kinds.DirectiveBegin kinds.DirectiveBegin = true
same_kind _ _ = false

-- a name or a keyword
abbrev pub is_word : TokenKind → Bool
is_word (kinds.Name text) = true
is_word (kinds.Keyword k) = true
is_word _ = false

-- the first word of a directive (OpenMP API 5.2); a combined one begins with that of its first part
abbrev pub directive_word : DirectiveKind → TokenKind
directive_word directives.Parallel = kinds.Name (codes "parallel")
directive_word directives.For = kinds.Keyword keywords.For
directive_word directives.Sections = kinds.Name (codes "sections")
directive_word directives.Section = kinds.Name (codes "section")
directive_word directives.Single = kinds.Name (codes "single")
directive_word directives.ParallelFor = kinds.Name (codes "parallel")
directive_word directives.ParallelSections = kinds.Name (codes "parallel")
directive_word directives.Masked = kinds.Name (codes "masked")
directive_word directives.Master = kinds.Name (codes "master")
directive_word directives.Critical = kinds.Name (codes "critical")
directive_word directives.Atomic = kinds.Name (codes "atomic")
directive_word directives.Task = kinds.Name (codes "task")
directive_word directives.Taskgroup = kinds.Name (codes "taskgroup")
directive_word directives.Barrier = kinds.Name (codes "barrier")
directive_word directives.Taskwait = kinds.Name (codes "taskwait")
directive_word directives.Taskyield = kinds.Name (codes "taskyield")
directive_word directives.Flush = kinds.Name (codes "flush")

-- which of some words a token is
abbrev pub among : {K : Type 0} → (K → TokenKind) → List K → TokenKind → Option K
among word [] kind = None
among word (k ∷ ks) kind = if same_kind kind (word k) then Some k else among word ks kind

-- the directives of one word
abbrev pub directive_words : List DirectiveKind
directive_words = directives.Parallel ∷ directives.For ∷ directives.Sections ∷ directives.Section
    ∷ directives.Single ∷ directives.Masked ∷ directives.Master
    ∷ directives.Critical ∷ directives.Atomic ∷ directives.Task ∷ directives.Taskgroup ∷ directives.Barrier
    ∷ directives.Taskwait ∷ directives.Taskyield ∷ directives.Flush ∷ []

-- the directive that a word is alone, as the first of its line; a combined one may go on behind it
abbrev pub begun_by : TokenKind → Option DirectiveKind
begun_by = among directive_word directive_words

-- the word of a clause
abbrev pub clause_word : ClauseKind → TokenKind
clause_word clauses.NumThreads = kinds.Name (codes "num_threads")
clause_word clauses.Filter = kinds.Name (codes "filter")
clause_word clauses.Default = kinds.Keyword keywords.Default
clause_word clauses.Shared = kinds.Name (codes "shared")
clause_word clauses.Private = kinds.Name (codes "private")
clause_word clauses.Firstprivate = kinds.Name (codes "firstprivate")
clause_word clauses.Reduction = kinds.Name (codes "reduction")
clause_word clauses.Schedule = kinds.Name (codes "schedule")
clause_word clauses.Nowait = kinds.Name (codes "nowait")
clause_word clauses.Update = kinds.Name (codes "update")
clause_word clauses.Read = kinds.Name (codes "read")
clause_word clauses.Write = kinds.Name (codes "write")
clause_word clauses.SeqCst = kinds.Name (codes "seq_cst")
clause_word clauses.Relaxed = kinds.Name (codes "relaxed")

-- what stands in `default(..)`
abbrev pub sharing_word : Sharing → TokenKind
sharing_word sharings.Shared = kinds.Name (codes "shared")
sharing_word sharings.None = kinds.Name (codes "none")

-- the operator of a reduction
abbrev pub operator_word : ReductionOperator → TokenKind
operator_word operators.Add = kinds.Punctuator punctuators.Plus
operator_word operators.Multiply = kinds.Punctuator punctuators.Star
operator_word operators.Max = kinds.Name (codes "max")
operator_word operators.Min = kinds.Name (codes "min")

-- the kind of a schedule
abbrev pub schedule_word : ScheduleKind → TokenKind
schedule_word schedules.Static = kinds.Keyword keywords.Static
schedule_word schedules.Dynamic = kinds.Name (codes "dynamic")
