use Rattle.std.specs.Map.{values_of}
use Rattle.om_undo_history.proofs.BySerial.{rising}
use Rattle.om_undo_history.proofs.Replies.{last_if, none_if}
use Rattle.om_undo_history.proofs.records.Records.last.Goals as goal

pub returns-clause-found : goal.returns-clause-found
returns-clause-found c = rw (← c.self.view_is) (last_if (values_of c.self.inside.kept) c.self.inside.own
    c.args.worker c.last.result (rising 0 c.self.inside.kept c.self.invariant.by_serial)
    c.self.invariant.own_entries c.last.ensures)

pub returns-clause-none : goal.returns-clause-none
returns-clause-none c = rw (← c.self.view_is) (none_if (values_of c.self.inside.kept) c.self.inside.own
    c.args.worker c.last.result (rising 0 c.self.inside.kept c.self.invariant.by_serial)
    c.self.invariant.own_entries c.last.ensures)
