use Rattle.om_state.specs.declared.control.Control.TheVariants.{Idle}
use Rattle.om_memory.specs.Plain.{plain_control}
use Rattle.om_memory.specs.Memories.{state_of}
use Rattle.om_task.specs.Plans.{label_at}
use Rattle.om_task.proofs.Plans.{plan_for, room_for}
use Rattle.om_task.proofs.planning.plan_by.Goals as goal

pub returns-in-Some-clause-plan : goal.returns-in-Some-clause-plan
returns-in-Some-clause-plan c = plan_for c.args.program.now c.args.planning.now.workers (state_of c.args.store.now)
    (label_at c.args.planning.now.worker c.args.planning.now.choice.now) (plain_control c.in-Some.control.now)
    c.control_plan.result c.in-Some.ensures c.control_plan.ensures.plan

pub returns-in-Some-clause-room : goal.returns-in-Some-clause-room
returns-in-Some-clause-room c = room_for (plain_control c.in-Some.control.now) _ c.control_plan.result
    c.in-Some.ensures c.control_plan.ensures.room

pub returns-in-None-clause-plan : goal.returns-in-None-clause-plan
returns-in-None-clause-plan c = plan_for c.args.program.now c.args.planning.now.workers (state_of c.args.store.now)
    (label_at c.args.planning.now.worker c.args.planning.now.choice.now) Idle c.control_plan-in-None.result
    c.in-None.ensures c.control_plan-in-None.ensures.plan

pub returns-in-None-clause-room : goal.returns-in-None-clause-room
returns-in-None-clause-room c = room_for Idle _ c.control_plan-in-None.result c.in-None.ensures
    c.control_plan-in-None.ensures.room
