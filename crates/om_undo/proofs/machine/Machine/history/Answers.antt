-- The headline, at the commands that led to the history.
use Rattle.std.proofs.Common.{subst}
use Rattle.om_undo_history.specs.Pasts.{history_in}
use Rattle.om_undo.specs.Machines.{MachineView}
use Rattle.om_undo.specs.Exactness.{IsExact}
use Rattle.om_undo.proofs.Exactness.{exact_at}
use Rattle.om_undo.proofs.machine.Machine.history.Goals as goal

pub returns-clause-headline : goal.returns-clause-headline
returns-clause-headline c = subst (λ (m : MachineView). IsExact m) c.self.view_is
    (exact_at c.self.inside.program c.self.inside.workers (history_in c.self.inside.history)
    (c.headline.ensures c.self.inside.program c.self.inside.workers) c.self.invariant.held.past.reached)
