use Rattle.std.proofs.Common.{◌≡◌, ◌≤◌, ◌++◌, map}
use Rattle.om_scope_rules.specs.Scopes.{after_parameters}
use Rattle.om_scope_rules.specs.Faults.{breaches_along}
use Rattle.om_scope_rules.specs.UnitResolution.{parameter_variable}
use Rattle.om_scope_rules.specs.UnitRules.{next_parameter, parameter_breaches, parameters_breaches}
use Rattle.om_scope.specs.Resolving.{parameters_in}
use Rattle.om_scope.proofs.function.declare_parameters.Given as goal

abbrev pub invariant-loop-parameter : goal.invariant-loop-parameter
invariant-loop-parameter l =
    let all = parameters_in l.parameters in
    let left = l.parameter-iterator in
    (parameters_breaches l.fn.symbols all ≡ breaches_along parameter_breaches next_parameter (l.before, l.symbols) left)
    × (after_parameters l.fn.symbols all ≡ after_parameters l.symbols left)
    × (l.found.items ++ map parameter_variable left ≡ l.fn.found.items ++ map parameter_variable all)
    × (l.before ≤ 16)
