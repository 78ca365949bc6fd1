use Rattle.om_drive.proofs.OwnCalls.{own_look}
use Rattle.om_drive.proofs.Stepping.{looks_behind}
use Rattle.om_drive.proofs.runner.Runner.first_ready.Goals as goal

pub returns-clause-steps : goal.returns-clause-steps
returns-clause-steps g c = looks_behind _ _ _ _ _ c.in_ok-reply.ensures.made.1

pub returns-clause-own : goal.returns-clause-own
returns-clause-own g c = own_look _ _ _ _ _ c.in_ok-reply.ensures.made.1

pub returns-clause-asked : goal.returns-clause-asked
returns-clause-asked g c = (_, c.in_ok-reply.ensures.made, c.first_name-first.ensures)
