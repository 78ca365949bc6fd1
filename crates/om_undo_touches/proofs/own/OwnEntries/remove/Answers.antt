use Rattle.std.proofs.Common.{refl, arith, nat_eq}
use Rattle.om_undo_touches.specs.Touches.{is_in}
use Rattle.om_undo_touches.specs.Workers.{none_behind, kept-unset}
use Rattle.om_undo_touches.proofs.own.OwnEntries.remove.Goals as goal

pub returns-else-worker-len : goal.returns-else-worker-len
returns-else-worker-len c w s =
    kept-unset (nat_eq c.args.serial s) (λ o. is_in o s) c.args.self.now.workers.items c.args.worker
    (none_behind c.args.self.now.workers.items c.args.worker (omega (arith, c.if-worker-len.false, c.len.ensures, c.args.self.now.workers.ok))) refl w
