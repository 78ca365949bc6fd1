use Rattle.std.specs.Prelude.{None}
use Rattle.om_cells.proofs.named.Named.remove.Goals as goal

pub invariant_of-self : goal.invariant_of-self
invariant_of-self c = c.note.ensures c.self.inside.places.entries None c.remove.ensures c.self.invariant
