use Rattle.std.proofs.Common.{ap, ◌∙◌}
use Rattle.om_parser_tree.specs.View.{view_head}
use Rattle.om_scope_rules.specs.Scopes.{after_optionals, outside, parameters_of}
use Rattle.std.proofs.lemmas.Result.{err_from_is_err_and}
use Rattle.om_scope_rules.specs.InRow.{first_of_left}
use Rattle.om_scope.proofs.Parameters.{prototype_outside}
use Rattle.om_scope.proofs.function.check_prototype.Goals as goal

pub returns-clause-in_scope : goal.returns-clause-in_scope
returns-clause-in_scope c =
    let ps = parameters_of (view_head c.args.head.now).parameters in
    c.leave.ensures
    ∙ ap outside (c.in_ok-declare_optionals.ensures.in_scope ∙ ap (λ scopes. after_optionals scopes ps)
    c.in_ok-enter.ensures)
    ∙ prototype_outside _ ps
    ∙ c.in_ok-declare_head.ensures

pub returns-in_err-check_head-clause-checked : goal.returns-in_err-check_head-clause-checked
returns-in_err-check_head-clause-checked c =
    let p = err_from_is_err_and c.from_residual.result c.from_residual.ensures.1 in
    rw (p.1, p.2) (λ other. first_of_left _ _ _ c.in_err-check_head.ensures)
