use Rattle.std.proofs.lemmas.Result.{on_ok_weaker}
use Rattle.om_lower_emit.specs.Emits.{names_at}
use Rattle.om_lower_emit.proofs.Singles.{emits_stepped}
use Rattle.om_lower_emit.proofs.single.step.Goals as goal

pub returns : goal.returns
returns c =
    on_ok_weaker c.put_all.result
    (λ h. emits_stepped (names_at c.args.here.now) c.args.here.now.at.line c.args.keeps c.args.variable
    c.args.operator _ _ _ _ c.step_of.ensures c.place-place.ensures h)
    c.put_all.ensures
