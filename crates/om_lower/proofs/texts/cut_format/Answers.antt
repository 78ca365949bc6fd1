use Rattle.om_lower.proofs.Cutting.{cut_whole}
use Rattle.om_lower.proofs.texts.cut_format.Goals as goal

pub returns : goal.returns
returns c =
    cut_whole c.args.cut.now c.loop-byte.cut c.flush.new.cut c.args.format.now c.loop-byte.left.now
    c.loop-byte.invariant c.in_default.ensures.cases
    c.in_ok-flush.ensures.pieces
