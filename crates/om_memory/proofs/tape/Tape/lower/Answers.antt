use Rattle.om_memory.proofs.Tapes.{lowered_by}
use Rattle.om_memory.proofs.tape.Tape.lower.Goals as goal

pub returns : goal.returns
returns g c = rw (← c.self.view_is) (lowered_by c.self.inside.height c.args.count c.self.inside.slots.items
    c.self.invariant (rw (← c.self.view_is) at c.requires))
