use Rattle.std.proofs.lemmas.Result.{on_ok_weaker}
use Rattle.om_lower_emit.specs.Emits.{names_at}
use Rattle.om_scope_tree.specs.ResolvedView as view
use Rattle.om_lower_emit.proofs.Effects.{emits_popped}
use Rattle.om_lower_emit.proofs.unused.popped.Goals as goal

pub returns : goal.returns
returns c =
    on_ok_weaker c.put.result
    (λ h. emits_popped (names_at c.args.here.now) c.args.here.now.at.line
    (view.expression c.args.e.now) _ _ _ c.in_ok-value.ensures h)
    c.put.ensures
