use Rattle.std.proofs.Common.{◌∙◌, ap}
use Rattle.om_foot.specs.Names.{above}
use Rattle.om_foot.proofs.NameLemmas.{shorter, above_is}
use Rattle.om_foot.proofs.name.Name.above.Goals as goal

pub invariant_of-result-2 : goal.invariant_of-result-2
invariant_of-result-2 c = shorter c.self.inside.len c.self.inside.numbers c.self.invariant c.if-self-eq0.false

pub returns : goal.returns
returns c = above_is c.self.inside.len c.self.inside.numbers c.self.invariant c.if-self-eq0.false
    ∙ ap above c.self.view_is
