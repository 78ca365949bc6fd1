use Rattle.std.proofs.Common.{◌∙◌, ap, sym}
use Rattle.om_memory.specs.Memories.{state_of}
use Rattle.om_task.specs.Rows.{spawn_row, wait_begin_row, task_yield_row}
use Rattle.om_team_serial.specs.Sites.{site_of, launch}
use Rattle.om_team_serial.specs.AtStates.{to_same}
use Rattle.om_task.specs.Table.{task_rows}
use Rattle.om_task.proofs.table.task_answer.Goals as goal

pub returns-in-Spawn : goal.returns-in-Spawn
returns-in-Spawn c =
    let begun = c.launch.ensures ∙ ap (λ n. launch (site_of c.args.here.now) n c.in-Spawn.body) c.from.ensures in
    to_same c.spawn.result _ _ (state_of c.args.here.now.store.now)
    ((λ i. spawn_row (record { worker = c.args.here.now.worker; line = c.line.ensures i; launch = begun i }) (c.body.ensures i)
    (c.context-context.ensures i)) ∙ ap (task_rows (site_of c.args.here.now)) (sym c.in-Spawn.is))
    (c.spawn.ensures (state_of c.args.here.now.store.now))

pub returns-in-WaitBegin : goal.returns-in-WaitBegin
returns-in-WaitBegin c =
    to_same c.wait_begin.result _ _ (state_of c.args.here.now.store.now)
    ((λ i. wait_begin_row c.args.here.now.worker (c.next-to.ensures i) (c.context-context.ensures i)) ∙ ap (task_rows (site_of c.args.here.now)) (sym c.in-WaitBegin.is))
    (c.wait_begin.ensures (state_of c.args.here.now.store.now))

pub returns-in-Yield : goal.returns-in-Yield
returns-in-Yield c =
    to_same c.task_yield.result _ _ (state_of c.args.here.now.store.now)
    ((λ i. task_yield_row (c.next-to.ensures i)) ∙ ap (task_rows (site_of c.args.here.now)) (sym c.in-Yield.is))
    (c.task_yield.ensures (state_of c.args.here.now.store.now))
