use Rattle.std.proofs.Common.{◌∙◌, ap, subst, IfOk}
use Rattle.om_state.specs.State.{State}
use Rattle.om_state.specs.Ready.{AreReady}
use Rattle.om_memory.specs.Memories.{state_of}
use Rattle.om_task.specs.Rules.{rules_of}
use Rattle.om_undo_history.specs.Pasts.{history_in}
use Rattle.om_undo.specs.Machines.{MachineView, state_in}
use Rattle.om_undo.proofs.Views.{view_of, state_is}
use Rattle.om_undo.proofs.machine.Machine.ready.Goals as goal

pub returns : goal.returns
returns c =
    let seen : MachineView = view_of c.self.inside.program c.self.inside.workers (history_in c.self.inside.history) in
    subst (λ (s : State). IfOk c.ready.result (λ v. AreReady s v.items))
    (state_is seen (state_of c.store.result.now)
    (c.store.ensures.replayed (rules_of c.self.inside.program c.self.inside.workers) c.self.invariant.held)
    ∙ ap state_in c.self.view_is) c.ready.ensures
