use Rattle.std.proofs.Common.{refl}
use Rattle.om_shell_debugger.proofs.stops.step_and_stop.Goals as goal

pub returns-clause-stop : goal.returns-clause-stop
returns-clause-stop c =
    rw (
      c.or_else-2.ensures,
      c.fault_stop.ensures,
      c.or_else.ensures,
      c.break_stop-breaks.ensures,
      c.in_ok-watches.ensures,
      c.deref.ensures.value,
      c.in-Ok.ensures,
      c.as_slice-2.ensures,
      c.as_slice.ensures,
      c.line-line.ensures,
      c.line.ensures,
      c.machine.ensures.left,
      c.machine-2.ensures.left,
      c.machine-machine.ensures.left,
      c.in_ok-reply.ensures.after,
      c.in_ok-reply.ensures.reply,
      c.worker-worker.ensures,
    ) refl
