use Rattle.std.proofs.Common.{sym, ◌∙◌}
use Rattle.om_memory.specs.Plain.{plain_context}
use Rattle.om_team_worksharing.proofs.Tables.{carried, grabbed, grabbed_chunk}
use Rattle.om_team_worksharing.proofs.shares.grab.Goals as goal

pub returns-in-Static : goal.returns-in-Static
returns-in-Static c = carried _ _ _ _
    (grabbed c.args.branch.to c.args.branch.otherwise (plain_context c.args.context.now) _ c.in-Some.share
    (sym c.share_in.ensures.value ∙ c.in-Some.is) c.in-Static.is)
    c.grab_static.ensures

pub returns-in-StaticChunk : goal.returns-in-StaticChunk
returns-in-StaticChunk c = carried _ _ _ _
    (grabbed_chunk c.args.branch.to c.args.branch.otherwise c.in-StaticChunk.size (plain_context c.args.context.now) _
    c.in-Some.share (sym c.share_in.ensures.value ∙ c.in-Some.is) c.in-StaticChunk.is)
    c.grab_static-in-StaticChunk.ensures
