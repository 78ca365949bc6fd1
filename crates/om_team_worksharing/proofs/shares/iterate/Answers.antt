use Rattle.std.proofs.Common.{sym, ◌∙◌}
use Rattle.om_memory.specs.Plain.{plain_context}
use Rattle.om_team_worksharing.proofs.Tables.{carried, iterated}
use Rattle.om_team_worksharing.proofs.shares.iterate.Goals as goal

pub returns : goal.returns
returns c = λ s. carried _ _ _ s
    (iterated c.args.branch.to c.args.branch.otherwise (plain_context c.args.context.now) c.args.slot _ c.in-Some.share
    _ (sym c.share_in.ensures.value ∙ c.in-Some.is) c.is_loop.ensures c.if-not-is_loop.false)
    c.next_iteration.ensures
