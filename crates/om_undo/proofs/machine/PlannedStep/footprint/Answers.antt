use Rattle.std.proofs.Common.{◌∙◌, ap}
use Rattle.om_undo.specs.PlannedSteps.{PlannedView, touched_if_made}
use Rattle.om_undo.proofs.Planned.{touched_by_updates, untouched_by_blocked, untouched_by_ended}
use Rattle.om_undo.proofs.machine.PlannedStep.footprint.Goals as goal

pub returns-in-Updates : goal.returns-in-Updates
returns-in-Updates c = touched_by_updates _ _ _ _ c.in-Updates.is c.self.invariant
    ∙ ap (λ (v : PlannedView). touched_if_made v.machine v.label) c.self.view_is

pub returns-in-Blocked : goal.returns-in-Blocked
returns-in-Blocked c = untouched_by_blocked _ _ _ _ c.in-Blocked.is c.self.invariant
    ∙ ap (λ (v : PlannedView). touched_if_made v.machine v.label) c.self.view_is

pub returns-in-Ended : goal.returns-in-Ended
returns-in-Ended c = untouched_by_ended _ _ _ c.in-Ended.is c.self.invariant
    ∙ ap (λ (v : PlannedView). touched_if_made v.machine v.label) c.self.view_is
