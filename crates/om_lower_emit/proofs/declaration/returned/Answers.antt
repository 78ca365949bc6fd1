use Rattle.std.proofs.Common.{◌∙◌, ap, true, false}
use Rattle.om_scope_tree.specs.ResolvedView as view
use Rattle.om_lower_emit.specs.Emits.{names_at}
use Rattle.om_lower_rules.specs.Statements.{last_instruction}
use Rattle.om_lower_emit.proofs.Leaves.{returned_none, returned_some}
use Rattle.om_lower_emit.proofs.declaration.returned.Goals as goal

pub returns-in_ok-put-in-None : goal.returns-in_ok-put-in-None
returns-in_ok-put-in-None c = rw c.in-None.is
    (returned_none (names_at c.args.here.now) _ _ _ _ _ (c.last_instruction-last.ensures.last
    ∙ ap (λ m. last_instruction m false) c.is_main-is_main.ensures) c.in_ok-put-in-None.ensures)

pub returns-in_ok-put-in-Some : goal.returns-in_ok-put-in-Some
returns-in_ok-put-in-Some c = rw c.in-Some.is
    (returned_some (names_at c.args.here.now) _ _ _ (view.expression c.in-Some.answer) _ _ _ (c.last_instruction-last-in-Some.ensures.last
    ∙ ap (λ m. last_instruction m true) c.is_main-is_main.ensures) c.in_ok-value-in-Some.ensures c.in_ok-put-in-Some.ensures)
