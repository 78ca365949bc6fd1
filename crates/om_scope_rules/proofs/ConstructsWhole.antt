-- Constructs round whole statements are whole.
use Rattle.std.proofs.Common.{◌≡◌, ℕ, Bool, true, false, cond, List, [], ◌∷◌, All, Option, None, Some, map, refl, ap}
use Rattle.std.proofs.Common.{subst, arith}
use Rattle.std.specs.Prelude.{IfSome}
use Rattle.std.specs.List.{flat_map}
use Rattle.std.proofs.lemmas.List.Elements.{All-nil, All-cons}
use Rattle.om_lexer.specs.declared.token.Span.{Span}
use Rattle.om_pragma.specs.declared.clause.Name as names
use Rattle.om_pragma.specs.declared.clause.NameList.{NameList}
use Rattle.om_pragma.specs.declared.tree.AtomicKind.{AtomicKind}
use Rattle.om_pragma.specs.declared.tree.AtomicKind.TheVariants as atomics
use Rattle.om_pragma.specs.declared.tree.Directive.{Directive}
use Rattle.om_pragma.specs.declared.tree.DirectiveName.{DirectiveName}
use Rattle.om_pragma.specs.declared.tree.DirectiveName.TheVariants as directives
use Rattle.om_pragma.specs.Questions.{atomic_kind}
use Rattle.om_scope_tree.specs.Captures.{captured, captured_variable, captures_of, taken_variables}
use Rattle.om_scope_tree.specs.declared.resolved.CopyKind.TheVariants as copies
use Rattle.om_scope_tree.specs.declared.resolved.Side.{Side}
use Rattle.om_scope_tree.specs.declared.resolved.Taking.{Taking}
use Rattle.om_scope_tree.specs.ResolvedTree as resolved
use Rattle.om_scope_tree.specs.ResolvedTree.{ResolvedClauseTree, ResolvedUpdateTree, ResolvedStatementTree}
use Rattle.om_scope_tree.specs.Whole.{HaveOneValueAtMost}
use Rattle.om_scope_tree.specs.Whole.{Around, of_parallel, of_worksharing, nothing, IsShared, IsWholeClause, within}
use Rattle.om_scope_tree.specs.Whole.{IsRegion, IsWholeUpdate, IsWholeStatement}
use Rattle.om_scope_rules.specs.DirectiveRules.{names_in, nothing_listed, flushed_breaches, list_breaches, flush_breaches}
use Rattle.om_scope_rules.specs.DirectiveRules.{traits_of}
use Rattle.om_scope_rules.specs.Knowing.{Knows}
use Rattle.om_scope_rules.specs.Perhaps.{each}
use Rattle.om_scope_rules.specs.Resolution.{variable_named}
use Rattle.om_scope_rules.specs.Scopes.{Scopes}
use Rattle.om_scope_rules.specs.Sharing.{is_parallel}
use Rattle.om_scope_rules.specs.StatementResolution.{has_nowait, with_update, atomic_of, construct_of, flushed}
use Rattle.om_scope_rules.specs.StatementResolution.{resolved_alone}
use Rattle.om_scope_rules.specs.Updates.{update_of}
use Rattle.om_scope_rules.proofs.ClausesWhole.{admitted_by, whole_shared}
use Rattle.om_scope_rules.proofs.Steps.{if_then}
use Rattle.om_scope_rules.proofs.Unbroken.{front, back}
use Rattle.om_scope_rules.proofs.UpdatesWhole.{whole_update}
use Rattle.om_parser_tree.specs.Formed.{IsConstruct}
use Rattle.om_parser_tree.specs.Tree.{ExpressionTree}

-- ---- regions

captured_back : (taking : ℕ → Taking) (vs : List ℕ) → map captured_variable (captured taking vs) ≡ vs
captured_back taking [] = refl
captured_back taking (v ∷ vs) = ap (λ rest. v ∷ rest) (captured_back taking vs)

pub region : (taking : ℕ → Taking) (start : ℕ) (cs : List ResolvedClauseTree) (body : ResolvedStatementTree)
    → IsRegion start cs (captures_of taking start cs body) body
region taking start cs body = record { taken = captured_back taking (taken_variables start cs body) }

-- ---- updates

-- a construct that may have no clause has none
never_admitted : (around : Around) (c : ResolvedClauseTree) → IsWholeClause around nothing c → ⊥
never_admitted around (resolved.ClauseValue kind e) h = let clash = h.0 in cc
never_admitted around (resolved.Shared v) h = let clash = h.0 in cc
never_admitted around (resolved.Copied copies.Private original copy) h = let clash = h.0 in cc
never_admitted around (resolved.Copied copies.Firstprivate original copy) h = let clash = h.0 in cc
never_admitted around (resolved.Copied (copies.Reduction o) original copy) h = let clash = h.0 in cc

no_clauses : (around : Around) (cs : List ResolvedClauseTree) → All (IsWholeClause around nothing) cs → cs ≡ []
no_clauses around [] h = refl
no_clauses around (c ∷ cs) h = absurd (never_admitted around c (h 0 c (omega arith)))

with_update_whole : (around : Around) (at : Span) (update : Option ResolvedUpdateTree)
    → IfSome update (IsWholeUpdate (within around [])) → IfSome (with_update at update) (IsWholeStatement around)
with_update_whole around at None h = tt
with_update_whole around at (Some update) h = h

atomic_whole : (around : Around) (kind : AtomicKind) (side : Side) (at : Span) (cs : List ResolvedClauseTree)
    (body : ResolvedStatementTree) → All (IsWholeClause around nothing) cs
    → IsWholeStatement (within around cs) body → HaveOneValueAtMost cs
    → IfSome (atomic_of kind side at cs body) (IsWholeStatement around)
atomic_whole around atomics.Update side at cs body hc hb once =
    with_update_whole around at (update_of side body) (whole_update (within around []) side body
    (subst (λ clauses. IsWholeStatement (within around clauses) body) (no_clauses around cs hc) hb))
atomic_whole around atomics.Read side at cs body hc hb once = (hc, hb, once)
atomic_whole around atomics.Write side at cs body hc hb once = (hc, hb, once)

-- ---- constructs

pub construct_whole : (around : Around) (parallel : Option ℕ) (side : Side) (d : Directive ExpressionTree)
    (name : DirectiveName) (cs : List ResolvedClauseTree) (body : ResolvedStatementTree)
    → IsConstruct name → (traits_of name).takes_loop ≡ false
    → All (IsWholeClause around (admitted_by (has_nowait d) name)) cs → IsWholeStatement (within around cs) body
    → HaveOneValueAtMost cs → IfSome (construct_of parallel side d name cs body) (IsWholeStatement around)
unfolding construct_of
construct_whole around parallel side d (directives.Parallel s) cs body is plain hc hb once =
    (hc, region _ d.hash.start cs body, hb, once)
construct_whole around parallel side d (directives.Task s) cs body is plain hc hb once =
    (hc, region _ d.hash.start cs body, hb, tt)
construct_whole around parallel side d (directives.Single s) cs body is plain hc hb once = (hc, hb, once)
construct_whole around parallel side d (directives.Masked s) cs body is plain hc hb once = (hc, hb, once)
construct_whole around parallel side d (directives.Master s) cs body is plain hc hb once = (hc, hb, once)
construct_whole around parallel side d (directives.Critical s name) cs body is plain hc hb once = (hc, hb, once)
construct_whole around parallel side d (directives.Taskgroup s) cs body is plain hc hb once = (hc, hb, once)
construct_whole around parallel side d (directives.Atomic s) cs body is plain hc hb once = atomic_whole around
    (atomic_kind d) side d.hash cs body hc hb once
construct_whole around parallel side d (directives.For s) cs body is plain hc hb once = cc
construct_whole around parallel side d (directives.ParallelFor s t) cs body is plain hc hb once = cc
construct_whole around parallel side d (directives.Sections s) cs body is plain hc hb once = let clash = is.2 in cc
construct_whole around parallel side d (directives.ParallelSections s t) cs body is plain hc hb once = let clash = is.2 in cc
construct_whole around parallel side d (directives.Section s) cs body is plain hc hb once = let clash = is.1 in cc
construct_whole around parallel side d (directives.Barrier s) cs body is plain hc hb once = let clash = is.0 in cc
construct_whole around parallel side d (directives.Taskwait s) cs body is plain hc hb once = let clash = is.0 in cc
construct_whole around parallel side d (directives.Taskyield s) cs body is plain hc hb once = let clash = is.0 in cc
construct_whole around parallel side d (directives.Flush s list) cs body is plain hc hb once = let clash = is.0 in cc

-- a directive for a loop is a `parallel` or a worksharing construct
pub loop_admitted : (nowait : Bool) (name : DirectiveName) → (traits_of name).takes_loop ≡ true → admitted_by nowait
    name ≡ cond (is_parallel (traits_of name).region) of_parallel of_worksharing
loop_admitted nowait (directives.For s) e = refl
loop_admitted nowait (directives.ParallelFor s t) e = refl
loop_admitted nowait (directives.Parallel s) e = cc
loop_admitted nowait (directives.Sections s) e = cc
loop_admitted nowait (directives.Section s) e = cc
loop_admitted nowait (directives.Single s) e = cc
loop_admitted nowait (directives.ParallelSections s t) e = cc
loop_admitted nowait (directives.Masked s) e = cc
loop_admitted nowait (directives.Master s) e = cc
loop_admitted nowait (directives.Critical s name) e = cc
loop_admitted nowait (directives.Atomic s) e = cc
loop_admitted nowait (directives.Task s) e = cc
loop_admitted nowait (directives.Taskgroup s) e = cc
loop_admitted nowait (directives.Barrier s) e = cc
loop_admitted nowait (directives.Taskwait s) e = cc
loop_admitted nowait (directives.Taskyield s) e = cc
loop_admitted nowait (directives.Flush s list) e = cc

-- ---- directives that stand alone

shared_each : (around : Around) (scopes : Scopes) (ns : List names.Name) → Knows around scopes
    → flat_map (flushed_breaches scopes) ns ≡ [] → IfSome (each (variable_named scopes) ns) (All (IsShared around))
shared_each around scopes [] h w = All-nil (IsShared around)
shared_each around scopes (n ∷ ns) h w =
    let own = flushed_breaches scopes n in
    let others = flat_map (flushed_breaches scopes) ns in
    if_then (IsShared around) (All (IsShared around)) (variable_named scopes n) _
    (whole_shared around scopes nothing_listed n h (front own others w)) (λ v hv.
    if_then (All (IsShared around)) (All (IsShared around)) (each (variable_named scopes) ns) _
    (shared_each around scopes ns h (back own others w)) (λ vs hvs. All-cons (IsShared around) v vs hv hvs))

flushed_whole : (around : Around) (scopes : Scopes) (list : Option NameList) → Knows around scopes
    → list_breaches scopes list ≡ [] → IfSome (flushed scopes list) (All (IsShared around))
flushed_whole around scopes None h w = All-nil (IsShared around)
flushed_whole around scopes (Some list) h w = shared_each around scopes (names_in list.first list.rest) h w

pub alone_whole : (around : Around) (scopes : Scopes) (d : Directive ExpressionTree) (name : DirectiveName)
    → Knows around scopes → flush_breaches scopes name ≡ [] → IfSome (resolved_alone scopes d name)
    (IsWholeStatement around)
alone_whole around scopes d (directives.Flush s list) h w = if_then (All (IsShared around))
    (IsWholeStatement around) (flushed scopes list) _ (flushed_whole around scopes list h w) (λ vs hvs. hvs)
alone_whole around scopes d (directives.Barrier s) h w = tt
alone_whole around scopes d (directives.Taskwait s) h w = tt
alone_whole around scopes d (directives.Taskyield s) h w = tt
alone_whole around scopes d _ h w = tt
