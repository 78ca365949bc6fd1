use Rattle.std.proofs.Common.{◌∙◌, ap, sym}
use Rattle.std.specs.Prelude.{map, option_map}
use Rattle.om_memory.specs.Plain.{plain_context, plain_held}
use Rattle.om_task.proofs.Admits.{admits_none, admits_more}
use Rattle.om_task.proofs.admit.admits_below.Goals as goal

pub returns-then-not-admits_on : goal.returns-then-not-admits_on
returns-then-not-admits_on c =
    admits_none c.args.program.now c.args.name.now (map plain_held c.args.contexts.now.items) c.loop-depth.depth
    (plain_context c.in-Some.context.now)
    (sym c.context_at.ensures ∙ ap (option_map (λ t. plain_context t.now)) c.in-Some.is) (sym c.admits_on.ensures
    ∙ c.if-not-admits_on.true)
    ∙ c.loop-depth.invariant

pub loop-depth-preserved : goal.loop-depth-preserved
loop-depth-preserved c =
    admits_more c.args.program.now c.args.name.now (map plain_held c.args.contexts.now.items) c.loop-depth.depth
    (plain_context c.in-Some.context.now)
    (sym c.context_at.ensures ∙ ap (option_map (λ t. plain_context t.now)) c.in-Some.is) (sym c.admits_on.ensures
    ∙ c.if-not-admits_on.false)
    ∙ c.loop-depth.invariant
