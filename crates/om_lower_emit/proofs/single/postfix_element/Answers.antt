use Rattle.std.proofs.Common.{true}
use Rattle.std.proofs.lemmas.Result.{on_ok_weaker}
use Rattle.om_lower_emit.specs.Writing.{emits_then}
use Rattle.om_lower_emit.specs.Emits.{names_at, site}
use Rattle.om_lower_emit.specs.Rests.{stepped_rest}
use Rattle.om_lower_rules.specs.Expressions.{stepped_back}
use Rattle.om_lower_rules.specs.Operators.{inverse_step_of}
use Rattle.om_lower_emit.proofs.single.postfix_element.Goals as goal

pub returns : goal.returns
returns c =
    let names = names_at c.args.here.now in
    on_ok_weaker c.step_back.result
    (λ h. emits_then (λ done at. stepped_rest (site names done) c.args.here.now.at.line true c.args.array c.args.operator)
    (λ done at. stepped_back (site names done) c.args.here.now.at.line (inverse_step_of c.args.operator)) _ _ _
    c.in_ok-step_element.ensures h)
    c.step_back.ensures
