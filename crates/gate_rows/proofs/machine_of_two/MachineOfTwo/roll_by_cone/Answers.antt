use Rattle.std.proofs.Common.{◌≡◌, ◌≤◌, ap, sym, subst, ◌∙◌}
use Rattle.om_undo.specs.Machines.{MachineView, with_roll}
use Rattle.gate_rows.proofs.machine_of_two.MachineOfTwo.roll_by_cone.Goals as goal

pub take_out-requires : goal.take_out-requires
take_out-requires c = (c.args.serial, c.deref.ensures.value ∙ (rw c.in-Some.is at c.in_ok-cone.ensures.members))

pub invariant_of-self : goal.invariant_of-self
invariant_of-self c =
    let old : MachineView = c.args.self.now.machine in
    let new : MachineView = c.take_out.new.self in
    let out : new ≡ with_roll old c.args.serial = c.take_out.ensures c.args.serial
    (c.deref.ensures.value ∙ (rw c.in-Some.is at c.in_ok-cone.ensures.members)) in
    record {
      two = ap (λ (m : MachineView). m.workers) out ∙ c.args.self.now.two;
      few = subst (λ (m : MachineView). m.history.made ≤ c.args.self.now.asked) (sym out) c.args.self.now.few;
    }
