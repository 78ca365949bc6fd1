use Rattle.std.specs.Prelude.{Some}
use Rattle.om_cells.proofs.named.Named.put.Goals as goal

pub invariant_of-self : goal.invariant_of-self
invariant_of-self c = c.note.ensures c.self.inside.places.entries (Some c.args.value) c.put-before.ensures.after
    c.self.invariant
