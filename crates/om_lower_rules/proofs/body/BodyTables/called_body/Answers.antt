use Rattle.std.proofs.Common.{ap, map, ◌∙◌}
use Rattle.std.specs.Option.{unwrap_or}
use Rattle.om_scope_tree.specs.ResolvedView as view
use Rattle.om_lower_rules.proofs.Called.{called_in}
use Rattle.om_lower_rules.proofs.body.BodyTables.called_body.Goals as goal

pub returns : goal.returns
returns c =
    let tables = c.args.self.now in
    c.unwrap_or.ensures
    ∙ ap (λ found. unwrap_or found tables.program.now.behind.bodies) c.number_at-number.ensures
    ∙ called_in (map view.function tables.functions.now) c.args.function c.as_slice.result.now
    tables.program.now.behind.bodies (c.as_slice.ensures.value ∙ tables.numbered) tables.behind
