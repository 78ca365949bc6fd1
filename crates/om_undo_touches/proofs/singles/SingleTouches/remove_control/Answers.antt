use Rattle.std.proofs.Common.{false, refl}
use Rattle.om_undo_touches.specs.Accesses.{control_write}
use Rattle.om_undo_touches.specs.Controls.{lists-control}
use Rattle.om_undo_touches.proofs.singles.SingleTouches.remove_control.Goals as goal

pub returns : goal.returns
returns c =
    lists-control false c.args.self.now c.remove.new.self (control_write c.args.worker) c.args.worker c.args.serial refl
    c.remove.ensures
