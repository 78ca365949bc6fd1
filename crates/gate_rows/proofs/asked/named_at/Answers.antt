-- The control of a worker counts no more than the state of the machine.
use Rattle.std.proofs.Common.{◌^◌, sym, subst}
use Rattle.om_foot.specs.declared.object.Obj.TheVariants as obj
use Rattle.om_team.specs.Counters.{ControlWithin}
use Rattle.om_undo.specs.Machines.{state_in}
use Rattle.gate_rows.proofs.Counters.{control_within}
use Rattle.gate_rows.proofs.asked.named_at.Goals as goal

pub named_by-requires-clause-counters : goal.named_by-requires-clause-counters
named_by-requires-clause-counters c =
    let q = obj.Control c.args.label.now.worker in
    subst (ControlWithin (2 ^ 63)) (sym c.in-Some.ensures)
    (control_within (2 ^ 63) (state_in c.args.machine.now q) (c.requires q))
