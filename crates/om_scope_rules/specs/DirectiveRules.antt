-- The rules of directives, each by the breaches that one has of it, in the order of the text.
use Rattle.std.specs.Prelude.{ℕ, List, [], ◌∷◌, ◌++◌, Option, None, Some, Bool, true, false, fold, map, not, ◌&&◌, ◌||◌}
use Rattle.std.specs.Prelude.{if◌then◌else◌}
use Rattle.std.specs.List.{list_any, flat_map}
use Rattle.std.specs.Str.{bytes_eq}
use Rattle.om_lexer.specs.declared.fault.FaultCode.TheVariants as faults
use Rattle.om_lexer.specs.declared.fault.SourceFault.{SourceFault}
use Rattle.om_lexer.specs.declared.token.Span.{Span}
use Rattle.om_pragma.specs.declared.clause.Clause.{Clause}
use Rattle.om_pragma.specs.declared.clause.Clause.TheVariants as clauses
use Rattle.om_pragma.specs.declared.clause.ClauseItem.{ClauseItem}
use Rattle.om_pragma.specs.declared.clause.DataSharing.{DataSharing}
use Rattle.om_pragma.specs.declared.clause.DataSharing.TheVariants as lists
use Rattle.om_pragma.specs.declared.clause.Sharing.{Sharing}
use Rattle.om_pragma.specs.declared.clause.Name as names
use Rattle.om_pragma.specs.declared.clause.NameList.{NameList}
use Rattle.om_pragma.specs.declared.tree.Directive.{Directive}
use Rattle.om_pragma.specs.declared.tree.DirectiveName.{DirectiveName}
use Rattle.om_pragma.specs.declared.tree.DirectiveName.TheVariants as directives
use Rattle.om_pragma.specs.Questions.{word_span}
use Rattle.om_parser_tree.specs.Tree.{ExpressionTree}
use Rattle.om_scope_rules.specs.declared.region.Inside.{Inside}
use Rattle.om_scope_rules.specs.declared.region.Inside.TheVariants as insides
use Rattle.om_scope_rules.specs.declared.region.Traits.{Traits}
use Rattle.om_scope_rules.specs.declared.region.Flow.{Flow}
use Rattle.om_scope_rules.specs.declared.names.Meaning.{Meaning}
use Rattle.om_scope_rules.specs.declared.names.Meaning.TheVariants as meanings
use Rattle.om_scope_rules.specs.declared.region.SharingKind.{SharingKind}
use Rattle.om_scope_rules.specs.declared.region.SharingKind.TheVariants as regions
use Rattle.om_scope_tree.specs.declared.resolved.Shape.TheVariants as shapes
use Rattle.om_scope_tree.specs.declared.resolved.CopyKind.{CopyKind}
use Rattle.om_scope_tree.specs.declared.resolved.CopyKind.TheVariants as copies
use Rattle.om_scope_tree.specs.declared.resolved.Variable.TheVariants as variables
use Rattle.om_scope_rules.specs.Faults.{breach_if, breaches_along}
use Rattle.om_scope_rules.specs.ExpressionRules.{expression_breaches, is_copied_array, is_scalar, undeclared_breaches}
use Rattle.om_scope_rules.specs.Scopes.{Binding, Scope, Scopes, meaning_of, with_name, within}
use Rattle.om_scope_rules.specs.Sharing.{declares, is_parallel, is_unlisted}

-- ---- directives

abbrev pub row : SharingKind → (is_bound : Bool) → Inside → (takes_loop : Bool) → Traits
row region is_bound inside takes_loop = record {
  region = region;
  is_bound = is_bound;
  inside = inside;
  takes_loop = takes_loop;
}

-- What a directive is as a construct: whether it is a worksharing construct or a barrier, whether such may stand in it
-- (OpenMP API 5.2, section 17.1), and whether it is for a loop.
abbrev pub traits_of : DirectiveName → Traits
traits_of (directives.Parallel s) = row regions.Parallel false insides.Opens false
traits_of (directives.For s) = row regions.Plain true insides.Closes true
traits_of (directives.Sections s) = row regions.Plain true insides.Closes false
traits_of (directives.Section s) = row regions.Plain false insides.Keeps false
traits_of (directives.Single s) = row regions.Plain true insides.Closes false
traits_of (directives.ParallelFor s t) = row regions.Parallel false insides.Closes true
traits_of (directives.ParallelSections s t) = row regions.Parallel false insides.Closes false
traits_of (directives.Masked s) = row regions.Plain false insides.Closes false
traits_of (directives.Master s) = row regions.Plain false insides.Closes false
traits_of (directives.Critical s name) = row regions.Plain false insides.Closes false
traits_of (directives.Atomic s) = row regions.Plain false insides.Keeps false
traits_of (directives.Task s) = row regions.Task false insides.Closes false
traits_of (directives.Taskgroup s) = row regions.Plain false insides.Keeps false
traits_of (directives.Barrier s) = row regions.Plain true insides.Keeps false
traits_of (directives.Taskwait s) = row regions.Plain false insides.Keeps false
traits_of (directives.Taskyield s) = row regions.Plain false insides.Keeps false
traits_of (directives.Flush s list) = row regions.Plain false insides.Keeps false

abbrev pub is_closed_inside : Inside → Bool → Bool
is_closed_inside insides.Opens closed = false
is_closed_inside insides.Closes closed = true
is_closed_inside insides.Keeps closed = closed

-- where the innermost `parallel` begins
abbrev pub parallel_in : Directive ExpressionTree → Option ℕ → Option ℕ
parallel_in d outer = if is_parallel (traits_of d.name).region then Some d.hash.start else outer

-- in a construct, which no jump leaves
abbrev pub constructing : Directive ExpressionTree → Flow → Flow
constructing d flow = record {
  may_break = false;
  may_continue = false;
  returns = flow.returns;
  in_construct = true;
  is_closed = is_closed_inside (traits_of d.name).inside flow.is_closed;
  parallel = parallel_in d flow.parallel;
}

-- S14 at the word: a worksharing construct or a barrier in a region of worksharing, `task`, `critical` or `masked`,
-- with no `parallel` between
abbrev pub nesting_breaches : Flow → DirectiveName → List SourceFault
nesting_breaches flow name = breach_if ((traits_of name).is_bound && flow.is_closed) faults.LeavesConstruct
    (word_span name).start

-- ---- clauses

-- what the clauses of a directive say of variables
pub record Listed : Type 0 where
  pub default : Option Sharing
  pub shared : List (List ℕ)
  -- those of which the construct has copies
  pub copies : Scope

abbrev pub nothing_listed : Listed
nothing_listed = record { default = None; shared = []; copies = [] }

abbrev pub is_listed : Listed → List ℕ → Bool
is_listed listed name = list_any (bytes_eq name) listed.shared || declares listed.copies name

-- the copy that a construct has for a name, which is no array and is known by where the name is listed
abbrev pub copy_of : names.Name → Binding
copy_of name = (name.text, meanings.Variable (variables.Local name.span.start) shapes.Scalar)

-- once a name stands in the list of a clause
abbrev pub after_name : DataSharing → Listed → names.Name → Listed
after_name lists.Shared listed name = record listed { shared = with_name listed.shared name.text }
after_name lists.Private listed name = record listed { copies = listed.copies ++ copy_of name ∷ [] }
after_name lists.Firstprivate listed name = record listed { copies = listed.copies ++ copy_of name ∷ [] }

abbrev pub is_variable : Option Meaning → Bool
is_variable (Some (meanings.Variable variable shape)) = true
is_variable (Some (meanings.Function signature)) = false
is_variable (Some meanings.Printf) = false
is_variable None = false

-- what can't be shared or copied so
abbrev pub is_mislisted : DataSharing → Scopes → List ℕ → Bool
is_mislisted lists.Shared scopes name = not (is_variable (meaning_of scopes name)) || is_copied_array scopes name
is_mislisted lists.Private scopes name = not (is_scalar (meaning_of scopes name))
is_mislisted lists.Firstprivate scopes name = not (is_scalar (meaning_of scopes name))

-- every clause but `private` uses the variable outside of the construct
abbrev pub uses_original : DataSharing → Bool
uses_original lists.Shared = true
uses_original lists.Private = false
uses_original lists.Firstprivate = true

-- how a variable is listed of which a construct has such a copy, or none: a `reduction` has copies and uses
-- the originals, as `firstprivate`
abbrev pub sharing_of : Option CopyKind → DataSharing
sharing_of None = lists.Shared
sharing_of (Some copies.Private) = lists.Private
sharing_of (Some copies.Firstprivate) = lists.Firstprivate
sharing_of (Some (copies.Reduction operator)) = lists.Firstprivate

-- S7; S9: no variable, an array of which a copy were made (which OpenMP allows: an own choice), a name that stands in a
-- clause already; S13
abbrev pub listed_breaches : Scopes → DataSharing → Listed → names.Name → List SourceFault
listed_breaches scopes sharing listed name =
    undeclared_breaches scopes name
    ++ breach_if (is_mislisted sharing scopes name.text || is_listed listed name.text) faults.Misuse name.span.start
    ++ breach_if (uses_original sharing && is_unlisted scopes name.text) faults.Unlisted name.span.start

-- the names of a list
abbrev pub names_in : names.Name → List (Span × names.Name) → List names.Name
names_in first rest = first ∷ map (λ further. further.1) rest

abbrev pub names_breaches : Scopes → DataSharing → Listed → List names.Name → List SourceFault
names_breaches scopes sharing = breaches_along (listed_breaches scopes sharing) (after_name sharing)

abbrev pub after_names : DataSharing → Listed → List names.Name → Listed
after_names sharing listed names = fold (after_name sharing) listed names

abbrev pub with_default : Listed → Sharing → Listed
with_default listed sharing = record listed { default = Some sharing }

unfoldable pub clause_breaches : Scopes → Listed → Clause ExpressionTree → List SourceFault
clause_breaches scopes listed (clauses.Value kind s v) = expression_breaches scopes true v.expression
clause_breaches scopes listed (clauses.Default s argument) = []
clause_breaches scopes listed (clauses.Data sharing s list) = names_breaches scopes sharing listed
    (names_in list.first list.rest)
clause_breaches scopes listed (clauses.Reduction s r) = names_breaches scopes lists.Firstprivate listed
    (names_in r.first r.rest)
clause_breaches scopes listed (clauses.Schedule s argument) = []
clause_breaches scopes listed (clauses.Plain kind s) = []

unfoldable pub after_clause : Listed → Clause ExpressionTree → Listed
after_clause listed (clauses.Value kind s v) = listed
after_clause listed (clauses.Default s argument) = with_default listed argument.sharing
after_clause listed (clauses.Data sharing s list) = after_names sharing listed (names_in list.first list.rest)
after_clause listed (clauses.Reduction s r) = after_names lists.Firstprivate listed (names_in r.first r.rest)
after_clause listed (clauses.Schedule s argument) = listed
after_clause listed (clauses.Plain kind s) = listed

abbrev pub item_breaches : Scopes → Listed → ClauseItem ExpressionTree → List SourceFault
item_breaches scopes listed item = clause_breaches scopes listed item.clause

abbrev pub after_item : Listed → ClauseItem ExpressionTree → Listed
after_item listed item = after_clause listed item.clause

-- of a directive and its clauses
abbrev pub directive_breaches : Scopes → Flow → Directive ExpressionTree → List SourceFault
directive_breaches scopes flow d = nesting_breaches flow d.name ++ breaches_along (item_breaches scopes) after_item
    nothing_listed d.clauses

-- what all its clauses say
abbrev pub listed_by : Directive ExpressionTree → Listed
listed_by d = fold after_item nothing_listed d.clauses

-- the scopes in a construct of a kind whose clauses say this
abbrev pub in_kind : SharingKind → Listed → Scopes → Scopes
in_kind kind listed scopes = within listed.copies
    (record { kind = kind; default = listed.default; shared = listed.shared }) scopes

abbrev pub in_construct : Directive ExpressionTree → Scopes → Scopes
in_construct d scopes = in_kind (traits_of d.name).region (listed_by d) scopes

-- ---- `flush`

-- S7, S9, S13
abbrev pub flushed_breaches : Scopes → names.Name → List SourceFault
flushed_breaches scopes name = listed_breaches scopes lists.Shared nothing_listed name

abbrev pub list_breaches : Scopes → Option NameList → List SourceFault
list_breaches scopes None = []
list_breaches scopes (Some list) = flat_map (flushed_breaches scopes) (names_in list.first list.rest)

-- a stand-alone directive is no construct; the list of a `flush` is no clause
abbrev pub flush_breaches : Scopes → DirectiveName → List SourceFault
flush_breaches scopes (directives.Flush s list) = list_breaches scopes list
flush_breaches scopes (directives.Parallel s) = []
flush_breaches scopes (directives.For s) = []
flush_breaches scopes (directives.Sections s) = []
flush_breaches scopes (directives.Section s) = []
flush_breaches scopes (directives.Single s) = []
flush_breaches scopes (directives.ParallelFor s t) = []
flush_breaches scopes (directives.ParallelSections s t) = []
flush_breaches scopes (directives.Masked s) = []
flush_breaches scopes (directives.Master s) = []
flush_breaches scopes (directives.Critical s name) = []
flush_breaches scopes (directives.Atomic s) = []
flush_breaches scopes (directives.Task s) = []
flush_breaches scopes (directives.Taskgroup s) = []
flush_breaches scopes (directives.Barrier s) = []
flush_breaches scopes (directives.Taskwait s) = []
flush_breaches scopes (directives.Taskyield s) = []
