use Rattle.std.proofs.Common.{rules}
use Rattle.om_memory.specs.Plain.{plain_context, plain_stack}
use Rattle.om_task.proofs.Ending.{ended_at}
use Rattle.om_task.proofs.task.task_end.Goals as goal

pub returns : goal.returns
returns c = λ s.
    ended_at c.args.worker (plain_stack c.args.stack.now) c.args.slots.now (plain_context c.in-Explicit-Some.next.now)
    c.in_ok-own.own c.in_ok-names.names c.above.result c.in_ok-row.row s (search rules) (search rules) (search rules)
    (search rules) (search rules) (search rules)
