use Rattle.om_memory.proofs.Tapes.{raised_at}
use Rattle.om_memory.proofs.tape.Tape.raise.Goals as goal

pub returns : goal.returns
returns g c = rw (← c.self.view_is) (raised_at c.self.inside.height c.args.count c.self.inside.slots.items)
