use Rattle.om_undo_history.proofs.Indexed.{no_records}
use Rattle.om_undo_history.proofs.records.Records.new.Goals as goal

pub invariant_of-result : goal.invariant_of-result
invariant_of-result c = no_records c.new.result c.new-2.result c.new-3.result c.new.ensures
    c.new-2.ensures c.new-3.ensures
