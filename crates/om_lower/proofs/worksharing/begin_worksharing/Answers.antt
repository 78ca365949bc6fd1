use Rattle.std.proofs.Common.{◌∙◌, ap, map, sym}
use Rattle.om_code.specs.declared.instruction.Instr.TheVariants as i
use Rattle.om_code.specs.declared.instruction.Sharing.TheVariants as sharings
use Rattle.om_scope_tree.specs.ResolvedView as view
use Rattle.om_lower_emit.specs.Emits.{names_at}
use Rattle.om_lower_emit.specs.Writing.{emits_then}
use Rattle.om_lower_emit.specs.Going.{puts_is}
use Rattle.om_lower.proofs.Opened.{begins_worksharing}
use Rattle.om_lower.proofs.Begun.{bounds_stand, loop_begins}
use Rattle.om_lower.proofs.worksharing.begin_worksharing.Goals as goal

pub returns-clause-code : goal.returns-clause-code
returns-clause-code c = begins_worksharing (names_at c.args.here.now) _ _ (view.loop c.args.repeated.now) _
    _ _ _ _ _ _ _ _ _ _ _ _ _ (sym c.comparison_of.ensures ∙ c.in-Some.is) (λ done. sym c.slot-slot.ensures)
    c.in_ok-chunk.ensures c.in_ok-again.ensures c.in_ok-over.ensures (emits_then _ _ _ _ _ c.in_ok-value.ensures
    (emits_then _ _ _ _ _ c.in_ok-value-2.ensures c.in_ok-starts.ensures.code))
    (puts_is _ _ _ _ _ (ap (λ x. i.Sharing (sharings.Loop x)) c.form_with.ensures) c.in_ok-put.ensures) c.define.ensures c.in_ok-put_jump.ensures
    c.define-2.ensures c.in_ok-put_jump-2.ensures

pub returns-clause-scopes : goal.returns-clause-scopes
returns-clause-scopes c =
    loop_begins (names_at c.args.here.now) c.args.here.now.at.line (map view.clause c.args.clauses.now)
    (view.loop c.args.repeated.now) _ _ _ _ _ _ _ _ _ _ _ _ _ _ _ _ _ _ _ _
    c.in_ok-chunk.ensures c.in_ok-again.ensures c.in_ok-over.ensures (bounds_stand (names_at c.args.here.now)
    c.args.here.now.at.line (map view.clause c.args.clauses.now) (view.loop c.args.repeated.now)
    _ _ _ _ _ _ c.in_ok-value.ensures c.in_ok-value-2.ensures c.in_ok-starts.ensures.scopes) c.place-from.ensures
    c.in_ok-begin.ensures c.in_ok-put.ensures c.define.ensures c.in_ok-put_jump.ensures c.define-2.ensures
    c.in_ok-put_jump-2.ensures
