use Rattle.std.proofs.Common.{sym, ap, ◌∙◌, cond, Some}
use Rattle.om_state.specs.declared.step.Choice.TheVariants.{Next}
use Rattle.om_undo.specs.ReadyNames.{ready_names}
use Rattle.om_shell_debugger.specs.Runs.{planned_for, start_among}
use Rattle.om_shell_debugger.proofs.Bounded.{can_where_planned, cannot_where_none, planned_is}
use Rattle.om_shell_debugger.proofs.runs.move_of.Goals as goal

pub returns-in-Some : goal.returns-in-Some
returns-in-Some c =
    let m = c.args.machine.now in
    let can = can_where_planned m c.args.worker Next _ _ c.in-Some.is c.in_ok-step.ensures in
    planned_is m c.args.worker Next _ _ c.in-Some.is c.in_ok-step.ensures
    ∙ ap (λ b. planned_for m c.args.worker (cond b (Some Next) (start_among m c.args.worker (ready_names m)))) (sym can)
