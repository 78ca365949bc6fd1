use Rattle.std.proofs.lemmas.Result.{IfErr-weaker}
use Rattle.om_scope_tree.specs.ResolvedView as view
use Rattle.om_frontend.specs.Verdict.{by_code}
use Rattle.om_frontend.proofs.program.program_of.Goals as goal

pub returns-clause-refused : goal.returns-clause-refused
returns-clause-refused c = IfErr-weaker c.lower.result _ _ (λ _ refused memory.
    by_code _ c.in_ok-resolved.ensures.resolution (refused memory)) c.lower.ensures.refused
