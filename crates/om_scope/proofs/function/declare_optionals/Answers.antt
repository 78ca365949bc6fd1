use Rattle.std.proofs.Common.{ap, ◌∙◌}
use Rattle.std.proofs.lemmas.Result.{err_from_is_err_and}
use Rattle.om_scope_rules.specs.Faults.{first_of}
use Rattle.om_scope_rules.specs.InRow.{first_of_left}
use Rattle.om_scope.proofs.function.declare_optionals.Goals as goal

pub returns-in_err-declare_optional-clause-checked : goal.returns-in_err-declare_optional-clause-checked
returns-in_err-declare_optional-clause-checked c =
    let p = err_from_is_err_and c.from_residual.result c.from_residual.ensures.1 in
    let left = rw c.in-Some.ensures.steps at c.loop-parameter.invariant.0 in
    rw (p.1, p.2) (λ other. ap first_of left ∙ first_of_left _ _ _ (c.in_err-declare_optional.ensures.checked other))
