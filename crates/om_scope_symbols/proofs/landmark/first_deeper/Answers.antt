use Rattle.std.proofs.Common.{◌∙◌}
use Rattle.om_scope_symbols.proofs.Landmarks.{first-found, lent}
use Rattle.om_scope_symbols.proofs.landmark.first_deeper.Goals as goal

pub returns : goal.returns
returns c =
    let landmarks = c.args.landmarks.now in
    let count = c.count_within.result in
    c.copied.ensures ∙ lent landmarks count c.get.result c.get.ensures.lookup
    ∙ first-found landmarks count c.args.depth c.count_within.ensures.place
