-- The tokens of a directive: its spelling.
use Rattle.std.specs.Prelude.{List, [], ◌∷◌, ◌++◌, Option, Some, None, codes}
use Rattle.std.specs.List.{flat_map}
use Rattle.om_lexer.specs.declared.token.Punctuator.{Punctuator}
use Rattle.om_lexer.specs.declared.token.Punctuator.TheVariants as punctuators
use Rattle.om_lexer.specs.declared.token.Span.{Span}
use Rattle.om_lexer.specs.declared.token.Token.{Token}
use Rattle.om_lexer.specs.declared.token.TokenKind.{TokenKind}
use Rattle.om_lexer.specs.declared.token.TokenKind.TheVariants as kinds
use Rattle.om_pragma.specs.declared.clause.Clause.{Clause}
use Rattle.om_pragma.specs.declared.clause.Clause.TheVariants as clauses
use Rattle.om_pragma.specs.declared.clause.ClauseItem.{ClauseItem}
use Rattle.om_pragma.specs.declared.clause.ClauseKind.{ClauseKind}
use Rattle.om_pragma.specs.declared.clause.ClauseKind.TheVariants as clause_kinds
use Rattle.om_pragma.specs.declared.clause.DataSharing.{DataSharing}
use Rattle.om_pragma.specs.declared.clause.DataSharing.TheVariants as data_kinds
use Rattle.om_pragma.specs.declared.clause.PlainClause.{PlainClause}
use Rattle.om_pragma.specs.declared.clause.PlainClause.TheVariants as plain_kinds
use Rattle.om_pragma.specs.declared.clause.ValueClause.{ValueClause}
use Rattle.om_pragma.specs.declared.clause.ValueClause.TheVariants as value_kinds
use Rattle.om_pragma.specs.declared.clause.Name as names
use Rattle.om_pragma.specs.declared.clause.NameList as lists
use Rattle.om_pragma.specs.declared.clause.Number.{Number}
use Rattle.om_pragma.specs.declared.tree.Directive.{Directive}
use Rattle.om_pragma.specs.declared.tree.DirectiveName.{DirectiveName}
use Rattle.om_pragma.specs.declared.tree.DirectiveName.TheVariants as directives
use Rattle.om_pragma.specs.declared.tree.DirectiveKind.TheVariants as words
use Rattle.om_pragma.specs.Words.{directive_word, clause_word, sharing_word, operator_word, schedule_word}

-- a token of a kind, where it stands
abbrev pub token : TokenKind → Span → Token
token k s = record { kind = k; span = s }

-- a punctuator (C17 6.4.6)
abbrev pub mark : Punctuator → Span → Token
mark p s = token (kinds.Punctuator p) s

-- a name (C17 6.4.2)
abbrev pub name : names.Name → Token
name n = token (kinds.Name n.text) n.span

-- a constant (C17 6.4.4.1)
abbrev pub number : Number → Token
number n = token (kinds.Constant n.value) n.span

-- ---- what stands in parentheses

-- a name behind its comma
unfoldable pub further_spelling : Span × names.Name → List Token
further_spelling n = mark punctuators.Comma n.0 ∷ name n.1 ∷ []

-- names with commas between them, up to the parenthesis
unfoldable pub names_spelling : names.Name → List (Span × names.Name) → Span → List Token
names_spelling first rest close = name first ∷ (flat_map further_spelling rest ++ mark punctuators.CloseParen close
    ∷ [])

-- names in parentheses
unfoldable pub list_spelling : lists.NameList → List Token
list_spelling l = mark punctuators.OpenParen l.open_paren ∷ names_spelling l.first l.rest l.close_paren

-- the chunk of a schedule behind its comma
unfoldable pub chunk_spelling : Option (Span × Number) → List Token
chunk_spelling (Some c) = mark punctuators.Comma c.0 ∷ number c.1 ∷ []
chunk_spelling None = []

-- what stands behind the word of a clause, with its expression spelled so
unfoldable pub argument_spelling : {E : Type 0} → (E → List Token) → Clause E → List Token
argument_spelling expression (clauses.Value k s v) = mark punctuators.OpenParen v.open_paren
    ∷ (expression v.expression ++ mark punctuators.CloseParen v.close_paren ∷ [])
argument_spelling expression (clauses.Default s a) = mark punctuators.OpenParen a.open_paren
    ∷ token (sharing_word a.sharing) a.word ∷ mark punctuators.CloseParen a.close_paren ∷ []
argument_spelling expression (clauses.Data k s l) = list_spelling l
argument_spelling expression (clauses.Reduction s r) = mark punctuators.OpenParen r.open_paren
    ∷ token (operator_word r.operator) r.sign ∷ mark punctuators.Colon r.colon ∷ names_spelling r.first r.rest
    r.close_paren
argument_spelling expression (clauses.Schedule s a) = mark punctuators.OpenParen a.open_paren
    ∷ token (schedule_word a.kind) a.word ∷ (chunk_spelling a.chunk ++ mark punctuators.CloseParen a.close_paren ∷ [])
argument_spelling expression (clauses.Plain k s) = []

-- ---- clauses

abbrev pub value_kind : ValueClause → ClauseKind
value_kind value_kinds.NumThreads = clause_kinds.NumThreads
value_kind value_kinds.Filter = clause_kinds.Filter

abbrev pub data_kind : DataSharing → ClauseKind
data_kind data_kinds.Shared = clause_kinds.Shared
data_kind data_kinds.Private = clause_kinds.Private
data_kind data_kinds.Firstprivate = clause_kinds.Firstprivate

abbrev pub plain_kind : PlainClause → ClauseKind
plain_kind plain_kinds.Nowait = clause_kinds.Nowait
plain_kind plain_kinds.Update = clause_kinds.Update
plain_kind plain_kinds.Read = clause_kinds.Read
plain_kind plain_kinds.Write = clause_kinds.Write
plain_kind plain_kinds.SeqCst = clause_kinds.SeqCst
plain_kind plain_kinds.Relaxed = clause_kinds.Relaxed

-- which clause it is
abbrev pub kind_of : {E : Type 0} → Clause E → ClauseKind
kind_of (clauses.Value k s v) = value_kind k
kind_of (clauses.Default s a) = clause_kinds.Default
kind_of (clauses.Data k s l) = data_kind k
kind_of (clauses.Reduction s r) = clause_kinds.Reduction
kind_of (clauses.Schedule s a) = clause_kinds.Schedule
kind_of (clauses.Plain k s) = plain_kind k

-- where its word stands
abbrev pub span_of : {E : Type 0} → Clause E → Span
span_of (clauses.Value k s v) = s
span_of (clauses.Default s a) = s
span_of (clauses.Data k s l) = s
span_of (clauses.Reduction s r) = s
span_of (clauses.Schedule s a) = s
span_of (clauses.Plain k s) = s

-- a clause
unfoldable pub clause_spelling : {E : Type 0} → (E → List Token) → Clause E → List Token
clause_spelling expression c = token (clause_word (kind_of c)) (span_of c) ∷ argument_spelling expression c

-- a comma that may stand there
abbrev pub comma_spelling : Option Span → List Token
comma_spelling (Some s) = mark punctuators.Comma s ∷ []
comma_spelling None = []

-- a clause in its row
unfoldable pub item_spelling : {E : Type 0} → (E → List Token) → ClauseItem E → List Token
item_spelling expression i = comma_spelling i.comma ++ clause_spelling expression i.clause

-- ---- directives

-- `(NAME)` behind `critical`
unfoldable pub critical_spelling : Option (Span × names.Name × Span) → List Token
critical_spelling (Some n) = mark punctuators.OpenParen n.0 ∷ name n.1 ∷ mark punctuators.CloseParen n.2 ∷ []
critical_spelling None = []

-- `(list)` behind `flush`
unfoldable pub flush_spelling : Option lists.NameList → List Token
flush_spelling (Some l) = list_spelling l
flush_spelling None = []

-- the words of a directive, and what belongs to them
unfoldable pub name_spelling : DirectiveName → List Token
name_spelling (directives.Parallel s) = token (directive_word words.Parallel) s ∷ []
name_spelling (directives.For s) = token (directive_word words.For) s ∷ []
name_spelling (directives.Sections s) = token (directive_word words.Sections) s ∷ []
name_spelling (directives.Section s) = token (directive_word words.Section) s ∷ []
name_spelling (directives.Single s) = token (directive_word words.Single) s ∷ []
name_spelling (directives.ParallelFor s t) = token (directive_word words.Parallel) s
    ∷ token (directive_word words.For) t ∷ []
name_spelling (directives.ParallelSections s t) = token (directive_word words.Parallel) s
    ∷ token (directive_word words.Sections) t ∷ []
name_spelling (directives.Masked s) = token (directive_word words.Masked) s ∷ []
name_spelling (directives.Master s) = token (directive_word words.Master) s ∷ []
name_spelling (directives.Critical s n) = token (directive_word words.Critical) s ∷ critical_spelling n
name_spelling (directives.Atomic s) = token (directive_word words.Atomic) s ∷ []
name_spelling (directives.Task s) = token (directive_word words.Task) s ∷ []
name_spelling (directives.Taskgroup s) = token (directive_word words.Taskgroup) s ∷ []
name_spelling (directives.Barrier s) = token (directive_word words.Barrier) s ∷ []
name_spelling (directives.Taskwait s) = token (directive_word words.Taskwait) s ∷ []
name_spelling (directives.Taskyield s) = token (directive_word words.Taskyield) s ∷ []
name_spelling (directives.Flush s l) = token (directive_word words.Flush) s ∷ flush_spelling l

-- `#`, `pragma` and `omp`
unfoldable pub opening_spelling : (hash pragma omp : Span) → List Token
opening_spelling hash pragma omp = token kinds.DirectiveBegin hash ∷ token (kinds.Name (codes "pragma")) pragma
    ∷ token (kinds.Name (codes "omp")) omp ∷ []

-- the run of tokens of a directive, its end last, with its expressions spelled so
unfoldable pub directive_spelling : {E : Type 0} → (E → List Token) → Directive E → List Token
directive_spelling expression d = opening_spelling d.hash d.pragma d.omp
    ++ (name_spelling d.name ++ (flat_map (item_spelling expression) d.clauses ++ token kinds.DirectiveEnd d.end ∷ []))
