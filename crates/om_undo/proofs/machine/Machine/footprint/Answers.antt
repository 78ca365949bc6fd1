-- What stands in the history stands in the machine.
use Rattle.std.proofs.Common.{◌≡◌, subst}
use Rattle.std.specs.Option.{option_copied}
use Rattle.om_task.specs.Rules.{rules_of}
use Rattle.om_undo_history.specs.Standing.{accesses_in}
use Rattle.om_undo.specs.Machines.{MachineView, footprint_in}
use Rattle.om_undo.proofs.machine.Machine.footprint.Goals as goal

pub returns : goal.returns
returns c =
    subst (λ (m : MachineView). accesses_in (option_copied c.footprint.result) ≡ footprint_in m c.args.serial)
    c.self.view_is
    (c.footprint.ensures (rules_of c.self.inside.program c.self.inside.workers) c.self.invariant.held)
