use Rattle.om_undo_touches.specs.Controls.{no-touches}
use Rattle.om_undo_touches.proofs.singles.SingleTouches.new.Goals as goal

pub returns : goal.returns
returns c = no-touches (record { controls = c.new.result; objects = c.new-2.result }) c.new.ensures c.new-2.ensures
