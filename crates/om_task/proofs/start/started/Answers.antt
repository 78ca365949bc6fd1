use Rattle.std.proofs.Common.{◌∙◌, ap, arith, [], ◌∷◌}
use Rattle.om_events.specs.declared.event.Record.TheVariants as event_record
use Rattle.om_events.specs.declared.kind.Thread.TheVariants as thread
use Rattle.om_foot.specs.declared.object.Obj.TheVariants as obj
use Rattle.om_state.specs.declared.value.Val.TheVariants as value
use Rattle.om_state.specs.State.{with_value}
use Rattle.om_memory.specs.Memories.{state_of}
use Rattle.om_task.proofs.Starting.{worker-next}
use Rattle.om_task.proofs.start.started.Goals as goal

pub loop-worker-preserved : goal.loop-worker-preserved
loop-worker-preserved c =
    c.in_ok-create.ensures.state
    ∙ ap (λ v. with_value (obj.Events c.loop-worker.worker) v (state_of c.loop-worker.store))
    c.in_ok-worker_records.ensures
    ∙ ap (with_value (obj.Events c.loop-worker.worker) (value.Events (event_record.ThreadBegin thread.Worker ∷ [])))
    c.loop-worker.invariant
    ∙ worker-next c.args.program.now c.loop-worker.worker (omega (arith, c.loop-worker.auto.worker))
