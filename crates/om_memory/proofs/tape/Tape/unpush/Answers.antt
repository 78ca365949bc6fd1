use Rattle.om_memory.proofs.Tapes.{unpushed_at}
use Rattle.om_memory.proofs.tape.Tape.unpush.Goals as goal

pub returns-in-None : goal.returns-in-None
returns-in-None g c =
    rw (c.in-None.is, ← c.self.view_is, c.truncate.ensures.items)
    (unpushed_at c.self.inside.height c.self.inside.slots.items (rw
    (← c.self.view_is) at c.requires.pushed) c.self.invariant (rw (← c.self.view_is) at
    (c.requires.grown c.in-None.is)))
