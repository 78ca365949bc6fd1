use Rattle.std.proofs.Common.{◌∙◌, ap}
use Rattle.om_undo_history.specs.Runs.{reply_to_step}
use Rattle.om_undo.specs.Machines.{rules_for}
use Rattle.om_undo.specs.PlannedSteps.{PlannedView, is_made}
use Rattle.om_undo.proofs.Planned.{made_by_updates, not_made_by_blocked, not_made_by_ended}
use Rattle.om_undo.proofs.machine.PlannedStep.is_possible.Goals as goal

pub returns-in-Updates : goal.returns-in-Updates
returns-in-Updates c = made_by_updates _ _ _ _ c.in-Updates.is c.self.invariant
    ∙ ap (λ (v : PlannedView). is_made (reply_to_step (rules_for v.machine) v.machine.history v.label)) c.self.view_is

pub returns-in-Blocked : goal.returns-in-Blocked
returns-in-Blocked c = not_made_by_blocked _ _ _ _ c.in-Blocked.is c.self.invariant
    ∙ ap (λ (v : PlannedView). is_made (reply_to_step (rules_for v.machine) v.machine.history v.label)) c.self.view_is

pub returns-in-Ended : goal.returns-in-Ended
returns-in-Ended c = not_made_by_ended _ _ _ c.in-Ended.is c.self.invariant
    ∙ ap (λ (v : PlannedView). is_made (reply_to_step (rules_for v.machine) v.machine.history v.label)) c.self.view_is
