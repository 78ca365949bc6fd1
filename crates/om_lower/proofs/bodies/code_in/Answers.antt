use Rattle.std.proofs.lemmas.Result.{IfOk-weaker}
use Rattle.om_lower.specs.Inputs.{seen_body, seen_tree}
use Rattle.om_lower.proofs.Coding.{fits_at}
use Rattle.om_lower.proofs.bodies.code_in.Goals as goal

pub returns : goal.returns
returns c =
    IfOk-weaker c.emitted_in.result _ _
    (λ made fits. fits_at (seen_tree c.args.seen.now) (seen_body c.args.seen.now) _ _ _ made c.new-tables.ensures.names
    c.is_main-is_main.ensures c.requires.seen.variables fits)
    c.emitted_in.ensures
