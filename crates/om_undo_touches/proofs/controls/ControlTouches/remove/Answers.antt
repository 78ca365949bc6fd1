use Rattle.std.proofs.Common.{arith}
use Rattle.om_undo_touches.specs.Workers.{none_behind}
use Rattle.om_undo_touches.specs.Controls.{control-unset}
use Rattle.om_undo_touches.proofs.controls.ControlTouches.remove.Goals as goal

pub returns-else-worker-len : goal.returns-else-worker-len
returns-else-worker-len c w m s =
    control-unset c.args.self.now.workers.items c.args.worker c.args.mode c.args.serial
    (none_behind c.args.self.now.workers.items c.args.worker (omega (arith, c.if-worker-len.false, c.len.ensures, c.args.self.now.workers.ok))) w m s
