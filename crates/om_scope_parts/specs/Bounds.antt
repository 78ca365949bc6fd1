-- What is promised of the functions for the bounds of loops: a loop is refused, or resolved, in these scopes.
use Rattle.std.specs.Global.{Box}
use Rattle.std.specs.Prelude.{Result}
use Rattle.om_lexer.specs.declared.fault.SourceFault.{SourceFault}
use Rattle.om_scope_tree.specs.declared.resolved.ResolvedExpression.{ResolvedExpression}
use Rattle.om_scope_tree.specs.declared.resolved.ResolvedLoop.{ResolvedLoop}
use Rattle.om_scope_tree.specs.declared.resolved.ResolvedSchedule.{ResolvedSchedule}
use Rattle.om_scope_tree.specs.ResolvedTree.{ResolvedLoopTree}
use Rattle.om_scope_tree.specs.ResolvedView as view
use Rattle.om_scope_rules.specs.Loops.{Loop}
use Rattle.om_scope_rules.specs.Resolves.{Resolves}
use Rattle.om_scope_rules.specs.Scopes.{Scopes}
use Rattle.om_scope_rules.specs.StatementResolution.{bounds_scopes, resolved_loop}
use Rattle.om_scope_rules.specs.StatementRules.{found_breaches, values_breaches}
use Rattle.om_scope_parts.specs.Views.{ResolvesBounds}

-- a resolved loop in a box
abbrev pub view_repeated : Box ResolvedLoop → ResolvedLoopTree
view_repeated repeated = view.loop repeated.value

-- the first value of a loop's variable and its bound, where the variable has its rules elsewhere
abbrev pub ResolvesValuesOf : Result (Box ResolvedExpression × Box ResolvedExpression) SourceFault → Scopes → Loop
    → Type 0
ResolvesValuesOf result scopes found = ResolvesBounds result (values_breaches scopes found) scopes found

-- both, with the rules of the variable; where the loop declares it, they are in its scope
abbrev pub ResolvesBoundsOf : Result (Box ResolvedExpression × Box ResolvedExpression) SourceFault → Scopes → Loop
    → Type 0
ResolvesBoundsOf result scopes found = ResolvesBounds result (found_breaches scopes found)
    (bounds_scopes scopes found) found

-- a loop that gets this schedule
abbrev pub ResolvesLoop : Result (Box ResolvedLoop) SourceFault → Scopes → ResolvedSchedule → Loop → Type 0
ResolvesLoop result scopes schedule found = Resolves view_repeated result (found_breaches scopes found)
    (resolved_loop scopes schedule found)
