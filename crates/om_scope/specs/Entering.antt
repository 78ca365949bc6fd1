-- What is promised where a construct is entered, behind its clauses and round the bounds of its loop.
use Rattle.std.specs.Global.{Box}
use Rattle.std.specs.Prelude.{◌≡◌, ◌++◌, [], OnOk, Result, Vec}
use Rattle.std.specs.declared.alloc.Global.{Global}
use Rattle.om_lexer.specs.declared.fault.SourceFault.{SourceFault}
use Rattle.om_pragma.specs.declared.tree.Directive.{Directive}
use Rattle.om_parser_tree.specs.declared.tree.Expression.{Expression}
use Rattle.om_parser_tree.specs.View.{view_directive}
use Rattle.om_scope_tree.specs.declared.resolved.ResolvedClause.{ResolvedClause}
use Rattle.om_scope_tree.specs.declared.resolved.ResolvedLoop.{ResolvedLoop}
use Rattle.om_scope_rules.specs.declared.region.Flow.{Flow}
use Rattle.om_scope_rules.specs.declared.region.SharingKind.{SharingKind}
use Rattle.om_scope_rules.specs.Checks.{Checks}
use Rattle.om_scope_rules.specs.DirectiveRules.{Listed, directive_breaches, in_kind, traits_of}
use Rattle.om_scope_rules.specs.Loops.{Loop}
use Rattle.om_scope_rules.specs.Outcomes.{Finds}
use Rattle.om_scope_rules.specs.Resolves.{Resolves}
use Rattle.om_scope_rules.specs.Scopes.{Scopes}
use Rattle.om_scope_rules.specs.StatementResolution.{resolved_clauses, resolved_loop, schedule_of}
use Rattle.om_scope_rules.specs.StatementRules.{found_breaches, round_bounds}
use Rattle.om_scope.specs.Parts.{round_listed}
use Rattle.om_scope.specs.Resolving.{view_clauses}
use Rattle.om_scope_parts.specs.Bounds.{ResolvesLoop, view_repeated}

-- the kind of the region that a directive begins
abbrev pub region_of : Directive Expression → SharingKind
region_of d = (traits_of (view_directive d).name).region

-- a directive is refused where it stands, or its clauses are resolved; they alone are answered
abbrev pub ResolvesClausesOf : Result (Vec ResolvedClause Global) SourceFault → Scopes → Flow → Directive Expression
    → Type 0
ResolvesClausesOf result scopes flow d =
    let tree = view_directive d in
    Resolves view_clauses result (directive_breaches scopes flow tree) (resolved_clauses scopes tree.clauses)

-- ---- with a loop

-- the first breach of the directive and of the loop's bounds is refused
abbrev pub ChecksEntering : {T : Type 0} → Result T SourceFault → Scopes → Flow → Directive Expression → Loop → Type 0
ChecksEntering result scopes flow d found =
    let tree = view_directive d in
    Checks result (directive_breaches scopes flow tree ++ found_breaches (round_bounds tree scopes) found)

-- the directive breaks no rule where it stands
abbrev pub IsAllowed : Scopes → Flow → Directive Expression → Type 0
IsAllowed scopes flow d = directive_breaches scopes flow (view_directive d) ≡ []

-- the bounds of the loop of the directive break no rule
abbrev pub IsBounded : Scopes → Directive Expression → Loop → Type 0
IsBounded scopes d found = found_breaches (round_bounds (view_directive d) scopes) found ≡ []

-- the clauses are resolved, unless something is refused
abbrev pub FindsClauses : Result (Vec ResolvedClause Global × Box ResolvedLoop) SourceFault → Scopes
    → Directive Expression → Type 0
FindsClauses result scopes d =
    Finds (λ made. view_clauses made.0) result (resolved_clauses scopes (view_directive d).clauses)

-- the loop is resolved with the schedule that the clauses ask for, unless something is refused
abbrev pub FindsLoop : Result (Vec ResolvedClause Global × Box ResolvedLoop) SourceFault → Scopes → Directive Expression
    → Loop → Type 0
FindsLoop result scopes d found =
    let tree = view_directive d in
    Finds (λ made. view_repeated made.1) result
    (resolved_loop (round_bounds tree scopes) (schedule_of tree.clauses) found)

-- a loop is refused or resolved, where `listed` is what the clauses of its construct list
abbrev pub ResolvesRound : Result (Box ResolvedLoop) SourceFault → Scopes → Listed → Directive Expression → Loop
    → Type 0
ResolvesRound result scopes listed d found = ResolvesLoop result (round_listed (region_of d) listed scopes)
    (schedule_of (view_directive d).clauses) found

-- the scopes are those in the construct, where `listed` is what its clauses list, unless something is refused
abbrev pub EntersListed : {T : Type 0} → Result T SourceFault → Scopes → Scopes → Listed → Directive Expression → Type 0
EntersListed result old new listed d = OnOk result (new ≡ in_kind (region_of d) listed old)
