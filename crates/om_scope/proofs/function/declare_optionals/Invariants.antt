use Rattle.std.proofs.Common.{◌≡◌, ◌≤◌}
use Rattle.om_scope_rules.specs.Scopes.{after_optionals}
use Rattle.om_scope_rules.specs.Faults.{breaches_along}
use Rattle.om_scope_rules.specs.UnitRules.{next_optional, optional_breaches, optionals_breaches}
use Rattle.om_scope.specs.Resolving.{parameters_in}
use Rattle.om_scope.proofs.function.declare_optionals.Given as goal

abbrev pub invariant-loop-parameter : goal.invariant-loop-parameter
invariant-loop-parameter l =
    let all = parameters_in l.parameters in
    let left = l.parameter-iterator in
    (optionals_breaches l.fn.symbols all ≡ breaches_along optional_breaches next_optional (l.before, l.symbols) left)
    × (after_optionals l.fn.symbols all ≡ after_optionals l.symbols left)
    × (l.before ≤ 16)
