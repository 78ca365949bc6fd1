use Rattle.std.proofs.Common.{ap, ◌∙◌, map}
use Rattle.om_parser_tree.specs.View.{view_head, view_statement}
use Rattle.om_scope_rules.specs.Scopes.{after_parameters, outside, parameters_of}
use Rattle.om_scope_rules.specs.StatementRules.{after_statements}
use Rattle.om_scope.proofs.Parameters.{function_outside}
use Rattle.om_scope.proofs.function.resolve_inside.Goals as goal

pub returns-clause-in_scope : goal.returns-clause-in_scope
returns-clause-in_scope c =
    let ps = parameters_of (view_head c.args.function.now.head).parameters in
    let ss = map view_statement c.args.function.now.body.items.items in
    c.leave.ensures
    ∙ ap outside
    ((let h = rw c.as_slice.ensures.value at c.in_ok-body.ensures.in_scope in h)
    ∙ ap (λ scopes. after_statements scopes ss) (c.in_ok-declare_parameters.ensures.in_scope
    ∙ ap (λ scopes. after_parameters scopes ps) c.in_ok-enter.ensures))
    ∙ function_outside c.args.symbols.now ps ss
