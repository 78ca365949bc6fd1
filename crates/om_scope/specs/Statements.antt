-- What is promised of the functions for statements with statements in them. Each is refused or resolved. `scopes`
-- says what is declared there, and `flow` whether control may leave it.
use Rattle.std.specs.Global.{Box}
use Rattle.std.specs.Prelude.{ℕ, List, Result, Some, Vec}
use Rattle.std.specs.declared.alloc.Global.{Global}
use Rattle.om_lexer.specs.declared.fault.SourceFault.{SourceFault}
use Rattle.om_pragma.specs.declared.tree.Directive.{Directive}
use Rattle.om_parser_tree.specs.declared.tree.Expression.{Expression}
use Rattle.om_parser_tree.specs.declared.tree.ForHead.{ForHead}
use Rattle.om_parser_tree.specs.declared.tree.Part.{Part}
use Rattle.om_parser_tree.specs.declared.tree.Statement.{Statement}
use Rattle.om_parser_tree.specs.View.{view_directive, view_for_head, view_part, view_statement}
use Rattle.om_scope_tree.specs.declared.resolved.ResolvedPart.{ResolvedPart}
use Rattle.om_scope_tree.specs.declared.resolved.ResolvedStatement.{ResolvedStatement}
use Rattle.om_scope_tree.specs.ResolvedView as view
use Rattle.om_scope_rules.specs.declared.region.Flow.{Flow}
use Rattle.om_scope_rules.specs.Loops.{Loop, loop_in}
use Rattle.om_scope_rules.specs.Resolves.{Resolves}
use Rattle.om_scope_rules.specs.Scopes.{Scopes, inside}
use Rattle.om_scope_rules.specs.StatementResolution.{resolved_construct, resolved_for, resolved_loop_construct}
use Rattle.om_scope_rules.specs.StatementResolution.{resolved_parts, resolved_plain_construct, resolved_repeated}
use Rattle.om_scope_rules.specs.StatementResolution.{resolved_sections, resolved_statements}
use Rattle.om_scope_rules.specs.StatementRules.{body_breaches, construct_breaches, continuing, for_breaches, in_loop}
use Rattle.om_scope_rules.specs.StatementRules.{loop_construct_breaches, part_breaches, parts_breaches}
use Rattle.om_scope_rules.specs.StatementRules.{plain_construct_breaches, sections_construct_breaches}
use Rattle.om_scope.specs.Resolving.{ResolvesStatement, part_trees, view_body, view_parts}

-- a `for`
abbrev pub ResolvesFor : Result ResolvedStatement SourceFault → Scopes → Flow → ForHead → Statement → Type 0
ResolvesFor result scopes flow head body =
    let tree = view_for_head head in
    let inner = view_statement body in
    Resolves view.statement result (for_breaches scopes flow tree inner) (resolved_for scopes flow.parallel tree inner)

-- ---- constructs round a statement

-- a construct of any kind round a statement
abbrev pub ResolvesConstruct : Result ResolvedStatement SourceFault → Scopes → Flow → Directive Expression → Statement
    → Type 0
ResolvesConstruct result scopes flow d body =
    let tree = view_directive d in
    let inner = view_statement body in
    Resolves view.statement result (construct_breaches scopes flow tree inner)
    (resolved_construct scopes flow.parallel tree inner)

-- a construct that is for any statement
abbrev pub ResolvesPlainConstruct : Result ResolvedStatement SourceFault → Scopes → Flow → Directive Expression
    → Statement → Type 0
ResolvesPlainConstruct result scopes flow d body =
    let tree = view_directive d in
    let inner = view_statement body in
    Resolves view.statement result (plain_construct_breaches scopes flow tree inner)
    (resolved_plain_construct scopes flow.parallel tree inner)

-- a construct that is for a loop
abbrev pub ResolvesLoopConstruct : Result ResolvedStatement SourceFault → Scopes → Flow → Directive Expression
    → Statement → Type 0
ResolvesLoopConstruct result scopes flow d body =
    let tree = view_directive d in
    let inner = view_statement body in
    Resolves view.statement result (loop_construct_breaches scopes flow tree (loop_in inner) inner)
    (resolved_loop_construct scopes flow.parallel tree (loop_in inner) inner)

-- the body of a canonical loop, where the statement is that loop
abbrev pub ResolvesLoopBody : Result (Box ResolvedStatement) SourceFault → Scopes → Flow → Loop → Statement → Type 0
ResolvesLoopBody result scopes flow found body =
    let inner = view_statement body in
    Resolves view_body result (body_breaches scopes flow (Some found) inner)
    (resolved_repeated scopes flow.parallel found inner)

-- what a canonical loop repeats; the loop has its variable in a scope of its own
abbrev pub ResolvesRepeated : Result (Box ResolvedStatement) SourceFault → Scopes → Flow → Loop → Statement → Type 0
ResolvesRepeated result scopes flow found repeated =
    ResolvesStatement view_body result (in_loop scopes (Some found)) (continuing flow) repeated

-- ---- `sections`

-- the construct of `sections`, with its parts
abbrev pub ResolvesSections : Result ResolvedStatement SourceFault → Scopes → Flow → Directive Expression → List Part
    → Type 0
ResolvesSections result scopes flow d sections =
    let tree = view_directive d in
    let inner = part_trees sections in
    Resolves view.statement result (sections_construct_breaches scopes flow tree inner)
    (resolved_sections scopes flow.parallel tree inner)

-- the parts of `sections`
abbrev pub ResolvesParts : Result (Vec ResolvedPart Global) SourceFault → Scopes → Flow → List Part → Type 0
ResolvesParts result scopes flow sections =
    let trees = part_trees sections in
    Resolves view_parts result (parts_breaches scopes flow 0 trees) (resolved_parts scopes flow.parallel trees)

-- a part of `sections`; `before` is how many parts stand before it
abbrev pub ResolvesPart : Result ResolvedPart SourceFault → Scopes → Flow → (before : ℕ) → Part → Type 0
ResolvesPart result scopes flow before part =
    let tree = view_part part in
    Resolves view.part result (part_breaches scopes flow before tree)
    (resolved_statements (inside scopes) flow.parallel tree.items)
