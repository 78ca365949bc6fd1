use Rattle.std.proofs.Common.{◌∙◌, ap, subst}
use Rattle.std.specs.Option.{option_copied}
use Rattle.om_state.specs.State.{State}
use Rattle.om_state.specs.Ready.{is_ready_at, IsNext}
use Rattle.om_state.specs.NextNames.{next_of_all, one_next}
use Rattle.om_memory.specs.Memories.{state_of}
use Rattle.om_task.specs.Rules.{rules_of}
use Rattle.om_undo_history.specs.Pasts.{history_in}
use Rattle.om_undo.specs.Machines.{MachineView, state_in}
use Rattle.om_undo.specs.ReadyNames.{ready_names}
use Rattle.om_undo.proofs.ReadyNames.{names_are_ready}
use Rattle.om_undo.proofs.Views.{view_of, state_is}
use Rattle.om_undo.proofs.machine.Machine.next_ready.Goals as goal

-- the least name is the first of the list of all
pub returns : goal.returns
returns c =
    let seen : MachineView = view_of c.self.inside.program c.self.inside.workers (history_in c.self.inside.history) in
    let m = c.args.self.now in
    let after = option_copied c.args.after in
    one_next (is_ready_at (state_in m)) after _ _
    (subst (λ (s : State). IsNext (is_ready_at s) after c.next_ready.result)
    (state_is seen (state_of c.store.result.now)
    (c.store.ensures.replayed (rules_of c.self.inside.program c.self.inside.workers) c.self.invariant.held)
    ∙ ap state_in c.self.view_is) c.next_ready.ensures)
    (next_of_all (is_ready_at (state_in m)) (ready_names m) (names_are_ready m) after)
