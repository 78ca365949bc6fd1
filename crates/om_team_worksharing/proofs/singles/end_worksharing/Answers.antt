use Rattle.std.proofs.Common.{ap, sym, ◌∙◌}
use Rattle.om_state.specs.declared.control.Construct.TheVariants as construct
use Rattle.om_memory.specs.Plain.{plain_context}
use Rattle.om_team_worksharing.proofs.Tables.{carried, share_closed, single_closed}
use Rattle.om_team_worksharing.proofs.singles.end_worksharing.Goals as goal

pub returns-in-Share : goal.returns-in-Share
returns-in-Share c = λ s. carried _ _ _ s
    (share_closed c.args.at.worker c.args.at.to (plain_context c.args.context.now) _ c.in-Some.region
    c.place-share.result.now c.work_of.result (sym c.innermost.ensures ∙ c.in-Some.is)
    (c.in-Share.is ∙ ap construct.Share (sym c.place-share.ensures.same)) c.work_of.ensures)
    c.close.ensures

pub returns-in-Single : goal.returns-in-Single
returns-in-Single c = λ s. carried _ _ _ s
    (single_closed c.args.at.worker c.args.at.to (plain_context c.args.context.now) _ c.in-Some.region c.in-Single.runs
    c.single_work.result (sym c.innermost.ensures ∙ c.in-Some.is) c.in-Single.is c.single_work.ensures)
    c.close-in-Single.ensures
