use Rattle.om_state.specs.declared.step.Label.{Label}
use Rattle.om_memory.specs.Plain.{plain_control}
use Rattle.om_memory.specs.Memories.{state_of}
use Rattle.om_task.proofs.Plans.{room_in, stands_for}
use Rattle.om_task.specs.Plans.{answer_in, label_at}
use Rattle.om_task.proofs.planning.control_plan.Goals as goal

pub returns-clause-plan : goal.returns-clause-plan
returns-clause-plan c =
    let l : Label = label_at c.args.planning.now.worker c.args.planning.now.choice.now in
    stands_for c.planned.result c.args.program.now l (plain_control c.args.control.now) c.line-line.result
    c.in_ok-names.field-0 (answer_in c.args.program.now c.args.planning.now.workers (state_of c.args.store.now) l
    (plain_control c.args.control.now)) c.line-line.ensures c.in_ok-names.ensures
    (c.planned.ensures.plan (plain_control c.args.control.now))

pub returns-clause-room : goal.returns-clause-room
returns-clause-room c =
    let l : Label = label_at c.args.planning.now.worker c.args.planning.now.choice.now in
    c.planned.ensures.room (plain_control c.args.control.now)
    (room_in c.args.program.now c.args.planning.now.workers (state_of c.args.store.now) l
    (plain_control c.args.control.now) c.in_ok-names.field-0 c.in_ok-names.ensures c.requires.control c.requires.state)
