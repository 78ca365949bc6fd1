use Rattle.std.proofs.lemmas.Result.{on_ok_weaker}
use Rattle.om_lower_emit.specs.Emits.{names_at}
use Rattle.om_lower_emit.proofs.Singles.{emits_old}
use Rattle.om_lower_emit.proofs.single.step_back.Goals as goal

pub returns : goal.returns
returns c =
    on_ok_weaker c.put_all.result
    (λ h. emits_old (names_at c.args.here.now) c.args.here.now.at.line c.args.operator _ _ _ c.inverse_step_of.ensures h)
    c.put_all.ensures
