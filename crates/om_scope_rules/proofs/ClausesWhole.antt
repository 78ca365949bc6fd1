-- Clauses without a breach resolve to whole ones.
use Rattle.std.proofs.Common.{◌≡◌, ℕ, Bool, true, false, not, ◌||◌, ◌&&◌, List, [], ◌∷◌, ◌++◌, All, Option, None, Some}
use Rattle.std.proofs.Common.{inl, inr, fold, refl, sym, ap, subst, ◌∙◌}
use Rattle.std.specs.Prelude.{IfSome}
use Rattle.std.specs.List.{list_any, flat_map}
use Rattle.std.specs.Map.{lookup}
use Rattle.std.specs.Str.{bytes_eq}
use Rattle.std.proofs.lemmas.List.{append_assoc, append-nil}
use Rattle.std.proofs.lemmas.List.Elements.{All-nil, All-cons, All-append}
use Rattle.om_lexer.specs.declared.fault.FaultCode.TheVariants as faults
use Rattle.om_pragma.specs.declared.clause.Clause.{Clause}
use Rattle.om_pragma.specs.declared.clause.Clause.TheVariants as clauses
use Rattle.om_pragma.specs.declared.clause.ClauseItem.{ClauseItem}
use Rattle.om_pragma.specs.declared.clause.ClauseKind.{ClauseKind}
use Rattle.om_pragma.specs.declared.clause.DataSharing.{DataSharing}
use Rattle.om_pragma.specs.declared.clause.DataSharing.TheVariants as lists
use Rattle.om_pragma.specs.declared.clause.ValueClause.TheVariants as values
use Rattle.om_pragma.specs.declared.clause.Name as names
use Rattle.om_pragma.specs.declared.tree.Directive.{Directive}
use Rattle.om_pragma.specs.declared.tree.DirectiveName.{DirectiveName}
use Rattle.om_pragma.specs.declared.tree.DirectiveName.TheVariants as directives
use Rattle.om_pragma.specs.Kinds.{directive_kind}
use Rattle.om_pragma.specs.Spelling.{kind_of}
use Rattle.om_pragma.specs.Table.{clauses_of, same_clause, may_stand, excludes, kinds_of, IsItem, EachBehind}
use Rattle.om_pragma.specs.Table.{IsDirective}
use Rattle.om_scope_tree.specs.declared.resolved.ConstructKind.TheVariants as constructs
use Rattle.om_scope_tree.specs.declared.resolved.CopyKind.{CopyKind}
use Rattle.om_scope_tree.specs.declared.resolved.CopyKind.TheVariants as copies
use Rattle.om_scope_tree.specs.declared.resolved.Shape.TheVariants as shapes
use Rattle.om_scope_tree.specs.declared.resolved.Variable.{Variable}
use Rattle.om_scope_tree.specs.ResolvedTree as resolved
use Rattle.om_scope_tree.specs.ResolvedTree.{ResolvedClauseTree}
use Rattle.om_scope_tree.specs.Whole.{Around, Local, IsInScope, IsWhole, Admitted, of_parallel, of_task, of_worksharing}
use Rattle.om_scope_tree.specs.Whole.{of_construct, nothing, IsAdmittedCopy, IsShared, IsWholeClause, copies_in}
use Rattle.om_scope_rules.specs.declared.names.Meaning.{Meaning}
use Rattle.om_scope_rules.specs.declared.names.Meaning.TheVariants as meanings
use Rattle.om_scope_rules.specs.DirectiveRules.{Listed, nothing_listed, is_listed, copy_of, after_name, after_names}
use Rattle.om_scope_rules.specs.DirectiveRules.{is_variable, is_mislisted, uses_original, sharing_of, listed_breaches}
use Rattle.om_scope_rules.specs.DirectiveRules.{names_in, names_breaches, clause_breaches, item_breaches, after_clause}
use Rattle.om_scope_rules.specs.DirectiveRules.{after_item, listed_by, in_construct}
use Rattle.om_scope_rules.specs.ExpressionRules.{undeclared_breaches, is_scalar, is_copied_array}
use Rattle.om_scope_rules.specs.Faults.{breach_if, breaches_along}
use Rattle.om_scope_rules.specs.Knowing.{IsThere, Known, Knows}
use Rattle.om_scope_rules.specs.Perhaps.{◌>>=◌, each, all_of}
use Rattle.om_scope_rules.specs.Resolution.{variable_of, variable_named, resolved_expression}
use Rattle.om_scope_rules.specs.Scopes.{Scope, Scopes, meaning_of}
use Rattle.om_scope_rules.specs.Sharing.{is_unlisted}
use Rattle.om_scope_rules.specs.StatementResolution as resolution
use Rattle.om_scope_rules.specs.StatementResolution.{clause_of, resolved_listed, resolved_clause, resolved_item}
use Rattle.om_scope_rules.specs.StatementResolution.{resolved_clauses}
use Rattle.om_scope_rules.proofs.ExpressionsWhole.{known_scalar, meant, whole_expression}
use Rattle.om_scope_rules.proofs.Knowing.{if_more, contains_last, lookup_push, there_more, known_more, known_within}
use Rattle.om_scope_rules.proofs.Steps.{if_then}
use Rattle.om_scope_rules.proofs.Unbroken.{front, back, not_broken, not_false, left_false}
use Rattle.om_parser_tree.specs.Formed.{IsExpression, IsLine}
use Rattle.om_parser_tree.specs.Tree.{ExpressionTree}

-- ---- which clauses a construct may have

-- what a directive's clauses may say
abbrev pub admitted_by : (nowait : Bool) → DirectiveName → Admitted
admitted_by nowait (directives.Parallel s) = of_parallel
admitted_by nowait (directives.For s) = of_worksharing
admitted_by nowait (directives.Sections s) = of_worksharing
admitted_by nowait (directives.Section s) = nothing
admitted_by nowait (directives.Single s) = of_construct (constructs.Single nowait)
admitted_by nowait (directives.ParallelFor s t) = of_parallel
admitted_by nowait (directives.ParallelSections s t) = of_parallel
admitted_by nowait (directives.Masked s) = of_construct constructs.Masked
admitted_by nowait (directives.Master s) = of_construct constructs.Masked
admitted_by nowait (directives.Critical s n) = nothing
admitted_by nowait (directives.Atomic s) = nothing
admitted_by nowait (directives.Task s) = of_task
admitted_by nowait (directives.Taskgroup s) = nothing
admitted_by nowait (directives.Barrier s) = nothing
admitted_by nowait (directives.Taskwait s) = nothing
admitted_by nowait (directives.Taskyield s) = nothing
admitted_by nowait (directives.Flush s l) = nothing

-- a clause that lists a variable for such a copy, or as shared
abbrev pub AdmitsKind : Admitted → Option CopyKind → Type 0
AdmitsKind admitted None = admitted.shared ≡ true
AdmitsKind admitted (Some kind) = IsAdmittedCopy admitted kind

abbrev pub Admits : Admitted → Clause ExpressionTree → Type 0
Admits admitted (clauses.Value kind s v) = admitted.value ≡ Some kind
Admits admitted (clauses.Data sharing s list) = AdmitsKind admitted (resolution.kind_of sharing)
Admits admitted (clauses.Reduction s r) = admitted.reductions ≡ true
Admits admitted (clauses.Default s argument) = Unit {0}
Admits admitted (clauses.Schedule s argument) = Unit {0}
Admits admitted (clauses.Plain kind s) = Unit {0}

abbrev pub AdmitsAll : Admitted → List (ClauseItem ExpressionTree) → Type 0
AdmitsAll admitted [] = Unit {0}
AdmitsAll admitted (item ∷ items) = Admits admitted item.clause × AdmitsAll admitted items

-- the table has such a clause of the directive
abbrev InTable : DirectiveName → ClauseKind → Type 0
InTable name kind = list_any (λ j. same_clause j kind) (clauses_of (directive_kind name)) ≡ true

in_table : (nowait : Bool) (name : DirectiveName) (clause : Clause ExpressionTree) → InTable name (kind_of clause)
    → Admits (admitted_by nowait name) clause
unfolding same_clause
in_table nowait (directives.Parallel s) (clauses.Value values.NumThreads at v) e = refl
in_table nowait (directives.Parallel s) (clauses.Value values.Filter at v) e = cc
in_table nowait (directives.Parallel s) (clauses.Data lists.Shared at list) e = refl
in_table nowait (directives.Parallel s) (clauses.Data lists.Private at list) e = refl
in_table nowait (directives.Parallel s) (clauses.Data lists.Firstprivate at list) e = refl
in_table nowait (directives.Parallel s) (clauses.Reduction at r) e = refl
in_table nowait (directives.For s) (clauses.Value values.NumThreads at v) e = cc
in_table nowait (directives.For s) (clauses.Value values.Filter at v) e = cc
in_table nowait (directives.For s) (clauses.Data lists.Shared at list) e = cc
in_table nowait (directives.For s) (clauses.Data lists.Private at list) e = refl
in_table nowait (directives.For s) (clauses.Data lists.Firstprivate at list) e = refl
in_table nowait (directives.For s) (clauses.Reduction at r) e = refl
in_table nowait (directives.Sections s) (clauses.Value values.NumThreads at v) e = cc
in_table nowait (directives.Sections s) (clauses.Value values.Filter at v) e = cc
in_table nowait (directives.Sections s) (clauses.Data lists.Shared at list) e = cc
in_table nowait (directives.Sections s) (clauses.Data lists.Private at list) e = refl
in_table nowait (directives.Sections s) (clauses.Data lists.Firstprivate at list) e = refl
in_table nowait (directives.Sections s) (clauses.Reduction at r) e = refl
in_table nowait (directives.Section s) (clauses.Value values.NumThreads at v) e = cc
in_table nowait (directives.Section s) (clauses.Value values.Filter at v) e = cc
in_table nowait (directives.Section s) (clauses.Data lists.Shared at list) e = cc
in_table nowait (directives.Section s) (clauses.Data lists.Private at list) e = cc
in_table nowait (directives.Section s) (clauses.Data lists.Firstprivate at list) e = cc
in_table nowait (directives.Section s) (clauses.Reduction at r) e = cc
in_table nowait (directives.Single s) (clauses.Value values.NumThreads at v) e = cc
in_table nowait (directives.Single s) (clauses.Value values.Filter at v) e = cc
in_table nowait (directives.Single s) (clauses.Data lists.Shared at list) e = cc
in_table nowait (directives.Single s) (clauses.Data lists.Private at list) e = refl
in_table nowait (directives.Single s) (clauses.Data lists.Firstprivate at list) e = refl
in_table nowait (directives.Single s) (clauses.Reduction at r) e = cc
in_table nowait (directives.ParallelFor s t) (clauses.Value values.NumThreads at v) e = refl
in_table nowait (directives.ParallelFor s t) (clauses.Value values.Filter at v) e = cc
in_table nowait (directives.ParallelFor s t) (clauses.Data lists.Shared at list) e = refl
in_table nowait (directives.ParallelFor s t) (clauses.Data lists.Private at list) e = refl
in_table nowait (directives.ParallelFor s t) (clauses.Data lists.Firstprivate at list) e = refl
in_table nowait (directives.ParallelFor s t) (clauses.Reduction at r) e = refl
in_table nowait (directives.ParallelSections s t) (clauses.Value values.NumThreads at v) e = refl
in_table nowait (directives.ParallelSections s t) (clauses.Value values.Filter at v) e = cc
in_table nowait (directives.ParallelSections s t) (clauses.Data lists.Shared at list) e = refl
in_table nowait (directives.ParallelSections s t) (clauses.Data lists.Private at list) e = refl
in_table nowait (directives.ParallelSections s t) (clauses.Data lists.Firstprivate at list) e = refl
in_table nowait (directives.ParallelSections s t) (clauses.Reduction at r) e = refl
in_table nowait (directives.Masked s) (clauses.Value values.NumThreads at v) e = cc
in_table nowait (directives.Masked s) (clauses.Value values.Filter at v) e = refl
in_table nowait (directives.Masked s) (clauses.Data lists.Shared at list) e = cc
in_table nowait (directives.Masked s) (clauses.Data lists.Private at list) e = cc
in_table nowait (directives.Masked s) (clauses.Data lists.Firstprivate at list) e = cc
in_table nowait (directives.Masked s) (clauses.Reduction at r) e = cc
in_table nowait (directives.Master s) (clauses.Value values.NumThreads at v) e = cc
in_table nowait (directives.Master s) (clauses.Value values.Filter at v) e = cc
in_table nowait (directives.Master s) (clauses.Data lists.Shared at list) e = cc
in_table nowait (directives.Master s) (clauses.Data lists.Private at list) e = cc
in_table nowait (directives.Master s) (clauses.Data lists.Firstprivate at list) e = cc
in_table nowait (directives.Master s) (clauses.Reduction at r) e = cc
in_table nowait (directives.Critical s n) (clauses.Value values.NumThreads at v) e = cc
in_table nowait (directives.Critical s n) (clauses.Value values.Filter at v) e = cc
in_table nowait (directives.Critical s n) (clauses.Data lists.Shared at list) e = cc
in_table nowait (directives.Critical s n) (clauses.Data lists.Private at list) e = cc
in_table nowait (directives.Critical s n) (clauses.Data lists.Firstprivate at list) e = cc
in_table nowait (directives.Critical s n) (clauses.Reduction at r) e = cc
in_table nowait (directives.Atomic s) (clauses.Value values.NumThreads at v) e = cc
in_table nowait (directives.Atomic s) (clauses.Value values.Filter at v) e = cc
in_table nowait (directives.Atomic s) (clauses.Data lists.Shared at list) e = cc
in_table nowait (directives.Atomic s) (clauses.Data lists.Private at list) e = cc
in_table nowait (directives.Atomic s) (clauses.Data lists.Firstprivate at list) e = cc
in_table nowait (directives.Atomic s) (clauses.Reduction at r) e = cc
in_table nowait (directives.Task s) (clauses.Value values.NumThreads at v) e = cc
in_table nowait (directives.Task s) (clauses.Value values.Filter at v) e = cc
in_table nowait (directives.Task s) (clauses.Data lists.Shared at list) e = refl
in_table nowait (directives.Task s) (clauses.Data lists.Private at list) e = refl
in_table nowait (directives.Task s) (clauses.Data lists.Firstprivate at list) e = refl
in_table nowait (directives.Task s) (clauses.Reduction at r) e = cc
in_table nowait (directives.Taskgroup s) (clauses.Value values.NumThreads at v) e = cc
in_table nowait (directives.Taskgroup s) (clauses.Value values.Filter at v) e = cc
in_table nowait (directives.Taskgroup s) (clauses.Data lists.Shared at list) e = cc
in_table nowait (directives.Taskgroup s) (clauses.Data lists.Private at list) e = cc
in_table nowait (directives.Taskgroup s) (clauses.Data lists.Firstprivate at list) e = cc
in_table nowait (directives.Taskgroup s) (clauses.Reduction at r) e = cc
in_table nowait (directives.Barrier s) (clauses.Value values.NumThreads at v) e = cc
in_table nowait (directives.Barrier s) (clauses.Value values.Filter at v) e = cc
in_table nowait (directives.Barrier s) (clauses.Data lists.Shared at list) e = cc
in_table nowait (directives.Barrier s) (clauses.Data lists.Private at list) e = cc
in_table nowait (directives.Barrier s) (clauses.Data lists.Firstprivate at list) e = cc
in_table nowait (directives.Barrier s) (clauses.Reduction at r) e = cc
in_table nowait (directives.Taskwait s) (clauses.Value values.NumThreads at v) e = cc
in_table nowait (directives.Taskwait s) (clauses.Value values.Filter at v) e = cc
in_table nowait (directives.Taskwait s) (clauses.Data lists.Shared at list) e = cc
in_table nowait (directives.Taskwait s) (clauses.Data lists.Private at list) e = cc
in_table nowait (directives.Taskwait s) (clauses.Data lists.Firstprivate at list) e = cc
in_table nowait (directives.Taskwait s) (clauses.Reduction at r) e = cc
in_table nowait (directives.Taskyield s) (clauses.Value values.NumThreads at v) e = cc
in_table nowait (directives.Taskyield s) (clauses.Value values.Filter at v) e = cc
in_table nowait (directives.Taskyield s) (clauses.Data lists.Shared at list) e = cc
in_table nowait (directives.Taskyield s) (clauses.Data lists.Private at list) e = cc
in_table nowait (directives.Taskyield s) (clauses.Data lists.Firstprivate at list) e = cc
in_table nowait (directives.Taskyield s) (clauses.Reduction at r) e = cc
in_table nowait (directives.Flush s l) (clauses.Value values.NumThreads at v) e = cc
in_table nowait (directives.Flush s l) (clauses.Value values.Filter at v) e = cc
in_table nowait (directives.Flush s l) (clauses.Data lists.Shared at list) e = cc
in_table nowait (directives.Flush s l) (clauses.Data lists.Private at list) e = cc
in_table nowait (directives.Flush s l) (clauses.Data lists.Firstprivate at list) e = cc
in_table nowait (directives.Flush s l) (clauses.Reduction at r) e = cc
in_table nowait name (clauses.Default s argument) e = tt
in_table nowait name (clauses.Schedule s argument) e = tt
in_table nowait name (clauses.Plain kind s) e = tt

both_true : (a b : Bool) → (a && b) ≡ true → a ≡ true
both_true true b e = refl
both_true false b e = cc

stands_in_table : (name : DirectiveName) (before : List ClauseKind) (kind : ClauseKind) → may_stand name before kind
    ≡ true → InTable name kind
unfolding may_stand
stands_in_table name before kind e = both_true (list_any (λ j. same_clause j kind)
    (clauses_of (directive_kind name))) (not (list_any (λ j. excludes j kind) before)) e

each_admitted : (nowait : Bool) (name : DirectiveName) (items before : List (ClauseItem ExpressionTree))
    → EachBehind (IsItem IsExpression name) before items → AdmitsAll (admitted_by nowait name) items
unfolding EachBehind
each_admitted nowait name [] before h = tt
each_admitted nowait name (item ∷ items) before h = (
  in_table nowait name item.clause (stands_in_table name (kinds_of before) (kind_of item.clause) h.0.can_stand),
  each_admitted nowait name items (before ++ item ∷ []) h.1,
)

pub line_admitted : (nowait : Bool) (d : Directive ExpressionTree) → IsLine d
    → AdmitsAll (admitted_by nowait d.name) d.clauses
unfolding IsDirective
line_admitted nowait d h = each_admitted nowait d.name d.clauses [] h

-- ---- listed variables

shared_there : (around : Around) (definitions : List (List ℕ)) (name : List ℕ) (meaning : Option Meaning)
    → is_variable meaning ≡ true
    → IfSome meaning (IsThere around.globals around.functions around.locals definitions name)
    → IfSome (variable_of meaning) (IsShared around)
shared_there around definitions name (Some (meanings.Variable v shapes.Scalar)) e h = inl h
shared_there around definitions name (Some (meanings.Variable v shapes.Array)) e h = inr h
shared_there around definitions name (Some (meanings.Function signature)) e h = tt
shared_there around definitions name (Some meanings.Printf) e h = tt
shared_there around definitions name None e h = tt

-- a listed name is what it is listed as
well_listed : (scopes : Scopes) (sharing : DataSharing) (listed : Listed) (name : names.Name) → listed_breaches
    scopes sharing listed name ≡ [] → is_mislisted sharing scopes name.text ≡ false
well_listed scopes sharing listed name w =
    let bad = is_mislisted sharing scopes name.text in
    let twice = is_listed listed name.text in
    let unlisted = breach_if (uses_original sharing && is_unlisted scopes name.text) faults.Unlisted name.span.start in
    left_false bad twice (not_broken (bad || twice) faults.Misuse name.span.start
    (back (undeclared_breaches scopes name) (breach_if (bad || twice) faults.Misuse name.span.start)
    (front _ unlisted w)))

pub whole_shared : (around : Around) (scopes : Scopes) (listed : Listed) (name : names.Name) → Knows around scopes
    → listed_breaches scopes lists.Shared listed name ≡ [] → IfSome (variable_named scopes name) (IsShared around)
whole_shared around scopes listed name h w =
    let meaning = meaning_of scopes name.text in
    let right = well_listed scopes lists.Shared listed name w in
    shared_there around scopes.definitions name.text meaning
    (not_false (is_variable meaning) (left_false (not (is_variable meaning)) (is_copied_array scopes name.text)
    right)) (meant around scopes name.text h)

scalar_listed : (around : Around) (scopes : Scopes) (name : names.Name) → Knows around scopes
    → not (is_scalar (meaning_of scopes name.text)) ≡ false → IfSome (variable_named scopes name)
    (IsInScope around shapes.Scalar)
scalar_listed around scopes name h right = known_scalar around scopes name h
    (not_false (is_scalar (meaning_of scopes name.text)) right)

whole_listed : (around : Around) (admitted : Admitted) (kind : Option CopyKind) (scopes : Scopes) (listed : Listed)
    (name : names.Name) → Knows around scopes → AdmitsKind admitted kind
    → listed_breaches scopes (sharing_of kind) listed name ≡ [] → IfSome (resolved_listed kind scopes name)
    (IsWholeClause around admitted)
whole_listed around admitted None scopes listed name h a w =
    if_then (IsShared around) (IsWholeClause around admitted) (variable_named scopes name) _
    (whole_shared around scopes listed name h w) (λ v hv. (a, hv))
whole_listed around admitted (Some copies.Private) scopes listed name h a w =
    if_then (IsInScope around shapes.Scalar) (IsWholeClause around admitted) (variable_named scopes name) _
    (scalar_listed around scopes name h (well_listed scopes lists.Private listed name w)) (λ v hv. (a, tt))
whole_listed around admitted (Some copies.Firstprivate) scopes listed name h a w =
    if_then (IsInScope around shapes.Scalar) (IsWholeClause around admitted) (variable_named scopes name) _
    (scalar_listed around scopes name h (well_listed scopes lists.Firstprivate listed name w)) (λ v hv. (a, hv))
whole_listed around admitted (Some (copies.Reduction o)) scopes listed name h a w =
    if_then (IsInScope around shapes.Scalar) (IsWholeClause around admitted) (variable_named scopes name) _
    (scalar_listed around scopes name h (well_listed scopes lists.Firstprivate listed name w)) (λ v hv. (a, hv))

-- ---- copies

-- the copies of a construct are among its variables
abbrev AreCopies : Around → Scopes → List Local → Scope → Type 0
AreCopies around scopes locals scope = (name : List ℕ) → IfSome (lookup (bytes_eq name) scope)
    (IsThere around.globals around.functions locals scopes.definitions name)

copies_more : (around : Around) (scopes : Scopes) (locals more : List Local) (scope : Scope) → AreCopies around
    scopes locals scope → AreCopies around scopes (locals ++ more) scope
copies_more around scopes locals more scope h =
    λ name. if_more (IsThere around.globals around.functions locals scopes.definitions name)
    (IsThere around.globals around.functions (locals ++ more) scopes.definitions name)
    (lookup (bytes_eq name) scope)
    (λ meaning there. there_more around.globals around.functions locals more scopes.definitions name meaning there)
    (h name)

copies_push : (around : Around) (scopes : Scopes) (locals : List Local) (scope : Scope) (name : names.Name)
    → AreCopies around scopes locals scope
    → AreCopies around scopes (locals ++ (name.span.start, shapes.Scalar) ∷ []) (scope ++ copy_of name ∷ [])
copies_push around scopes locals scope name h =
    let local : Local = (name.span.start, shapes.Scalar) in
    λ other. lookup_push around.globals around.functions (IsThere around.globals around.functions
    (locals ++ local ∷ []) scopes.definitions other) (bytes_eq other) scope (copy_of name)
    (copies_more around scopes locals (local ∷ []) scope h other) (contains_last locals local)

copies_after_name : (around : Around) (scopes : Scopes) (locals : List Local) (kind : Option CopyKind)
    (listed : Listed) (name : names.Name) (v : Variable) → AreCopies around scopes locals listed.copies
    → AreCopies around scopes (locals ++ copies_in (clause_of kind v name)) (after_name (sharing_of kind) listed
    name).copies
copies_after_name around scopes locals None listed name v h = copies_more around scopes locals [] listed.copies h
copies_after_name around scopes locals (Some copies.Private) listed name v h = copies_push around scopes locals
    listed.copies name h
copies_after_name around scopes locals (Some copies.Firstprivate) listed name v h = copies_push around scopes locals
    listed.copies name h
copies_after_name around scopes locals (Some (copies.Reduction o)) listed name v h = copies_push around scopes
    locals listed.copies name h

-- ---- clauses

-- resolved clauses, and what is known of the copies behind them
abbrev AreGoodClauses : Around → Admitted → Scopes → List Local → Scope → List ResolvedClauseTree → Type 0
AreGoodClauses around admitted scopes locals behind cs = All (IsWholeClause around admitted) cs × AreCopies around
    scopes (locals ++ flat_map copies_in cs) behind

module _ (around : Around) (admitted : Admitted) (scopes : Scopes) (h : Knows around scopes) where
  none_good : (locals : List Local) (behind : Scope) → AreCopies around scopes locals behind → AreGoodClauses around
      admitted scopes locals behind []
  none_good locals behind hb = (All-nil (IsWholeClause around admitted), copies_more around scopes locals [] behind hb)

  -- some clauses, and others behind them
  joined : (locals : List Local) (xs ys : List ResolvedClauseTree) (behind : Scope)
      → All (IsWholeClause around admitted) xs
      → AreGoodClauses around admitted scopes (locals ++ flat_map copies_in xs) behind ys → AreGoodClauses around
      admitted scopes locals behind (xs ++ ys)
  joined locals xs ys behind hx hy = (
    All-append (IsWholeClause around admitted) xs ys hx hy.0,
    subst (λ all. AreCopies around scopes all behind) (append_assoc locals (flat_map copies_in xs)
        (flat_map copies_in ys) ∙ ap (λ more. locals ++ more) (sym (flat_append xs ys))) hy.1,
  )
    where
      flat_append : (xs ys : List ResolvedClauseTree) → flat_map copies_in (xs ++ ys) ≡ flat_map copies_in xs
          ++ flat_map copies_in ys
      flat_append [] ys = refl
      flat_append (x ∷ xs) ys = ap (λ more. copies_in x ++ more) (flat_append xs ys)
          ∙ sym (append_assoc (copies_in x) (flat_map copies_in xs) (flat_map copies_in ys))

  listed_good : (kind : Option CopyKind) (n : names.Name) (listed : Listed) (locals : List Local) → AreCopies around
      scopes locals listed.copies → (v : Option Variable)
      → IfSome (v >>= λ x. Some (clause_of kind x n)) (IsWholeClause around admitted)
      → IfSome (v >>= λ x. Some (clause_of kind x n)) (λ c. IsWholeClause around admitted c × AreCopies around
      scopes (locals ++ copies_in c) (after_name (sharing_of kind) listed n).copies)
  listed_good kind n listed locals hl None g = tt
  listed_good kind n listed locals hl (Some x) g = (g, copies_after_name around scopes locals kind listed n x hl)

  whole_names : (kind : Option CopyKind) → AdmitsKind admitted kind → (ns : List names.Name) (listed : Listed)
      (locals : List Local) → AreCopies around scopes locals listed.copies
      → names_breaches scopes (sharing_of kind) listed ns ≡ [] → IfSome (each (resolved_listed kind scopes) ns)
      (AreGoodClauses around admitted scopes locals (after_names (sharing_of kind) listed ns).copies)
  whole_names kind a [] listed locals hl w = none_good locals listed.copies hl
  whole_names kind a (n ∷ ns) listed locals hl w =
      let own = listed_breaches scopes (sharing_of kind) listed n in
      let behind = after_name (sharing_of kind) listed n in
      let others = names_breaches scopes (sharing_of kind) behind ns in
      let Q = AreGoodClauses around admitted scopes locals (after_names (sharing_of kind) listed (n ∷ ns)).copies in
      if_then (λ c. IsWholeClause around admitted c × AreCopies around scopes (locals ++ copies_in c) behind.copies)
      Q (resolved_listed kind scopes n) _
      (listed_good kind n listed locals hl (variable_named scopes n) (whole_listed around admitted kind scopes
      listed n h a (front own others w))) (λ c hc.
      if_then (AreGoodClauses around admitted scopes (locals ++ copies_in c) (after_names (sharing_of kind) behind
      ns).copies) Q (each (resolved_listed kind scopes) ns) _
      (whole_names kind a ns behind (locals ++ copies_in c) hc.1 (back own others w)) (λ cs hcs.
      joined locals (c ∷ []) cs (after_names (sharing_of kind) behind ns).copies
      (All-cons (IsWholeClause around admitted) c [] hc.0 (All-nil (IsWholeClause around admitted)))
      (subst (λ all. AreGoodClauses around admitted scopes all (after_names (sharing_of kind) behind ns).copies cs)
      (ap (λ more. locals ++ more) (sym (append-nil (copies_in c)))) hcs)))

  whole_clause : (listed : Listed) (locals : List Local) (clause : Clause ExpressionTree) → Admits admitted clause
      → AreCopies around scopes locals listed.copies → clause_breaches scopes listed clause ≡ []
      → IfSome (resolved_clause scopes clause) (AreGoodClauses around admitted scopes locals
      (after_clause listed clause).copies)
  unfolding clause_breaches resolved_clause after_clause
  whole_clause listed locals (clauses.Value kind s v) a hl w =
      if_then (IsWhole around true) (AreGoodClauses around admitted scopes locals listed.copies)
      (resolved_expression scopes v.expression) _ (whole_expression around scopes true v.expression h w)
      (λ e he. (
        All-cons (IsWholeClause around admitted) (resolved.ClauseValue kind e) [] (a, he)
            (All-nil (IsWholeClause around admitted)),
        copies_more around scopes locals [] listed.copies hl,
      ))
  whole_clause listed locals (clauses.Default s argument) a hl w = none_good locals listed.copies hl
  whole_clause listed locals (clauses.Data lists.Shared s list) a hl w = whole_names None a
      (names_in list.first list.rest) listed locals hl w
  whole_clause listed locals (clauses.Data lists.Private s list) a hl w = whole_names (Some copies.Private) a
      (names_in list.first list.rest) listed locals hl w
  whole_clause listed locals (clauses.Data lists.Firstprivate s list) a hl w = whole_names
      (Some copies.Firstprivate) a (names_in list.first list.rest) listed locals hl w
  whole_clause listed locals (clauses.Reduction s r) a hl w = whole_names (Some (copies.Reduction r.operator)) a
      (names_in r.first r.rest) listed locals hl w
  whole_clause listed locals (clauses.Schedule s argument) a hl w = none_good locals listed.copies hl
  whole_clause listed locals (clauses.Plain kind s) a hl w = none_good locals listed.copies hl

  whole_row : (items : List (ClauseItem ExpressionTree)) (listed : Listed) (locals : List Local)
      → AdmitsAll admitted items → AreCopies around scopes locals listed.copies
      → breaches_along (item_breaches scopes) after_item listed items ≡ []
      → IfSome (all_of (resolved_item scopes) items) (AreGoodClauses around admitted scopes locals
      (fold after_item listed items).copies)
  whole_row [] listed locals a hl w = none_good locals listed.copies hl
  whole_row (item ∷ items) listed locals a hl w =
      let own = item_breaches scopes listed item in
      let behind = after_item listed item in
      let others = breaches_along (item_breaches scopes) after_item behind items in
      let Q = AreGoodClauses around admitted scopes locals (fold after_item behind items).copies in
      if_then (AreGoodClauses around admitted scopes locals behind.copies) Q (resolved_item scopes item) _
      (whole_clause listed locals item.clause a.0 hl (front own others w)) (λ xs hxs.
      if_then (AreGoodClauses around admitted scopes (locals ++ flat_map copies_in xs)
      (fold after_item behind items).copies) Q (all_of (resolved_item scopes) items) _
      (whole_row items behind (locals ++ flat_map copies_in xs) a.1 hxs.1 (back own others w))
      (λ ys hys. joined locals xs ys (fold after_item behind items).copies hxs.0 hys))

  -- the clauses of a directive, and what is known in its construct
  pub whole_clauses : (d : Directive ExpressionTree) → AdmitsAll admitted d.clauses
      → breaches_along (item_breaches scopes) after_item nothing_listed d.clauses ≡ []
      → IfSome (resolved_clauses scopes d.clauses) (λ cs. All (IsWholeClause around admitted) cs
      × Known around.globals around.functions (around.locals ++ flat_map copies_in cs) (in_construct d scopes))
  whole_clauses d a w =
      if_more (AreGoodClauses around admitted scopes around.locals (listed_by d).copies)
      (λ cs. All (IsWholeClause around admitted) cs × Known around.globals around.functions
      (around.locals ++ flat_map copies_in cs) (in_construct d scopes))
      (resolved_clauses scopes d.clauses)
      (λ cs hcs. (
        hcs.0,
        known_within around.globals around.functions (around.locals ++ flat_map copies_in cs) (listed_by d).copies _
            scopes hcs.1
            (known_more around.globals around.functions around.locals (flat_map copies_in cs) scopes h),
      ))
      (whole_row d.clauses nothing_listed around.locals a (λ name. tt) w)
