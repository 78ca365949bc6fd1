use Rattle.std.proofs.Common.{◌≡◌, ◌∙◌, ap}
use Rattle.om_foot.specs.declared.object.Obj.TheVariants as obj
use Rattle.om_memory.specs.Memories.{state_of}
use Rattle.om_state.specs.Values.{control_in}
use Rattle.om_task.specs.Rules.{rules_of, is_at_scheduling_point}
use Rattle.om_undo_history.specs.Pasts.{history_in}
use Rattle.om_undo.specs.Machines.{MachineView, state_in}
use Rattle.om_undo.proofs.Views.{view_of, state_is}
use Rattle.om_undo.proofs.machine.Machine.is_at_scheduling_point.Goals as goal

pub returns-in-Some : goal.returns-in-Some
returns-in-Some c =
    let seen : MachineView = view_of c.self.inside.program c.self.inside.workers (history_in c.self.inside.history) in
    let is : state_of c.store.result.now ≡ state_in seen =
    state_is seen (state_of c.store.result.now)
    (c.store.ensures.replayed (rules_of c.self.inside.program c.self.inside.workers) c.self.invariant.held) in
    c.is_at_scheduling_point.ensures
    ∙ ap (is_at_scheduling_point c.self.inside.program)
    (c.in-Some.ensures ∙ ap (λ s. control_in (s (obj.Control c.args.worker))) is)
    ∙ ap (λ (m : MachineView). is_at_scheduling_point m.program (control_in (state_in m (obj.Control c.args.worker))))
    c.self.view_is
