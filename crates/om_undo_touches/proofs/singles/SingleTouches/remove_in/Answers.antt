use Rattle.om_undo_touches.proofs.CellLemmas.{singles_less}
use Rattle.om_undo_touches.proofs.singles.SingleTouches.remove_in.Goals as goal

pub returns : goal.returns
returns c = singles_less c.args.cells.now c.args.serial c.args.self.now c.remove_in.new.self c.remove_in.ensures
