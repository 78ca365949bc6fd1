use Rattle.std.specs.Prelude.{map}
use Rattle.std.proofs.lemmas.Result.{on_ok_weaker}
use Rattle.om_lower.proofs.Wholes.{task_emits, task_scopes}
use Rattle.om_scope_tree.specs.ResolvedView as view
use Rattle.om_lower_rules.specs.BodyTables.{numbered_by}
use Rattle.om_lower.proofs.body.write_task.Goals as goal

pub returns-clause-code : goal.returns-clause-code
returns-clause-code c =
    on_ok_weaker c.end.result
    (λ h. task_emits (numbered_by c.args.tables.now) c.args.numbers _ c.args.region.now.at
    (map view.clause c.args.region.now.clauses.now) c.args.region.now.captures.now _ _ _ _
    c.outside-spot.ensures c.in_ok-inner.ensures.emitted c.in_ok-put.ensures)
    c.end.ensures

pub returns-clause-scopes : goal.returns-clause-scopes
returns-clause-scopes c =
    on_ok_weaker c.end.result
    (λ h. task_scopes (numbered_by c.args.tables.now) c.args.region.now.at
    (map view.clause c.args.region.now.clauses.now) c.args.region.now.captures.now _ _ _ _ _ _ _ _ _ _ _
    c.height-height.ensures c.place-to.ensures (c.in_ok-task_copies.ensures (numbered_by c.args.tables.now) _)
    c.in_ok-inner.ensures.scopes c.in_ok-put.ensures h)
    c.end.ensures
