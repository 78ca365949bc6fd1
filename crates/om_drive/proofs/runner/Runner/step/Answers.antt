use Rattle.om_drive.proofs.OwnCalls.{own_step}
use Rattle.om_drive.proofs.Stepping.{steps_behind}
use Rattle.om_drive.proofs.runner.Runner.step.Goals as goal

pub returns-clause-steps : goal.returns-clause-steps
returns-clause-steps g c = rw c.is_step_made.ensures (steps_behind _ _ _ c.in_ok-reply.ensures.made.1)

pub returns-clause-own : goal.returns-clause-own
returns-clause-own g c = own_step _ _ _ _ _ _ c.in_ok-reply.ensures.made.1

pub returns-clause-called : goal.returns-clause-called
returns-clause-called g c = (_, c.in_ok-reply.ensures.made, c.is_step_made.ensures, c.waits_for_tasks.ensures)
