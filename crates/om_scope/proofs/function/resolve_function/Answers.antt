use Rattle.std.proofs.lemmas.Result.{err_from_is_err_and}
use Rattle.om_scope_rules.specs.InRow.{first_of_left}
use Rattle.om_scope_rules.specs.Resolves.{refuses}
use Rattle.om_scope.proofs.function.resolve_function.Goals as goal

pub returns-in_err-begin_definition-clause-found : goal.returns-in_err-begin_definition-clause-found
returns-in_err-begin_definition-clause-found c =
    let p = err_from_is_err_and c.from_residual.result c.from_residual.ensures.1 in
    rw (p.1, p.2) (refuses (λ other. first_of_left _ _ _ (c.in_err-begin_definition.ensures.checked other)))
