use Rattle.std.proofs.Common.{subst, None}
use Rattle.om_cells.specs.Places.{PutsAt}
use Rattle.om_cells.proofs.places.Places.remove.Goals as goal

pub returns : goal.returns
returns c = subst (λ es. PutsAt c.args.part.now None es c.remove.new.self.entries) c.self.view_is
    c.remove.ensures.updates.0
