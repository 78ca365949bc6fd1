use Rattle.std.proofs.Common.{ap}
use Rattle.std.proofs.lemmas.Result.{on_ok_weaker}
use Rattle.om_lower.proofs.Wholes.{function_emits, function_scopes}
use Rattle.om_scope_tree.specs.ResolvedTree as trees
use Rattle.om_scope_tree.specs.ResolvedView as view
use Rattle.std.specs.Prelude.{map}
use Rattle.om_lower_rules.specs.BodyTables.{numbered_by}
use Rattle.om_lower.proofs.body.write_function.Goals as goal

pub returns-clause-code : goal.returns-clause-code
returns-clause-code c =
    on_ok_weaker c.end.result
    (λ h. function_emits (numbered_by c.args.tables.now) (view.function c.args.function.now) c.args.numbers
    _ _ _ _ _ _
    c.outside-spot.ensures
    (ap (λ items. trees.statements (map view.statement items)) c.as_slice-2.ensures.value)
    c.last_instruction-last.ensures.last c.in_ok-statements.ensures.emitted c.in_ok-put.ensures)
    c.end.ensures

pub returns-clause-scopes : goal.returns-clause-scopes
returns-clause-scopes c =
    on_ok_weaker c.end.result
    (λ h. function_scopes (numbered_by c.args.tables.now) (view.function c.args.function.now) _ _ _ _ _ _ _ _ _ _ _ _
    (ap (λ items. trees.statements (map view.statement items)) c.as_slice-2.ensures.value)
    c.as_slice.ensures c.height-height.ensures c.place-to.ensures
    (c.in_ok-begin_parameters.ensures (numbered_by c.args.tables.now) _) c.in_ok-statements.ensures.scopes c.in_ok-put.ensures
    h)
    c.end.ensures
