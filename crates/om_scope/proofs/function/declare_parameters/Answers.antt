use Rattle.std.proofs.Common.{ap, sym, ◌∙◌}
use Rattle.std.proofs.lemmas.List.{append-nil}
use Rattle.std.proofs.lemmas.Result.{err_from_is_err_and}
use Rattle.om_scope_rules.specs.Faults.{first_of}
use Rattle.om_scope_rules.specs.InRow.{first_of_left}
use Rattle.om_scope.proofs.function.declare_parameters.Goals as goal

pub returns-in_err-declare_parameter-clause-checked : goal.returns-in_err-declare_parameter-clause-checked
returns-in_err-declare_parameter-clause-checked c =
    let p = err_from_is_err_and c.from_residual.result c.from_residual.ensures.1 in
    let left = rw c.in-Some.ensures.steps at c.loop-parameter.invariant.0 in
    rw (p.1, p.2) (λ other. ap first_of left ∙ first_of_left _ _ _ (c.in_err-declare_parameter.ensures.checked other))

pub returns-clause-checked : goal.returns-clause-checked
returns-clause-checked c =
    let left = rw c.in-None.ensures.steps.0 at c.loop-parameter.invariant in
    left.0

pub returns-clause-in_scope : goal.returns-clause-in_scope
returns-clause-in_scope c =
    let left = rw c.in-None.ensures.steps.0 at c.loop-parameter.invariant in
    sym left.1

pub returns-clause-resolved : goal.returns-clause-resolved
returns-clause-resolved c =
    let left = rw c.in-None.ensures.steps.0 at c.loop-parameter.invariant in
    sym (append-nil c.loop-parameter.found.items) ∙ left.2
