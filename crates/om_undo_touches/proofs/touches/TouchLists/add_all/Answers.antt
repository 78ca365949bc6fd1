use Rattle.om_undo_touches.specs.Accesses.{accesses_of}
use Rattle.om_undo_touches.specs.Lists.{taken_out, only_some_added}
use Rattle.om_undo_touches.proofs.touches.TouchLists.add_all.Goals as goal

pub remove_all-requires : goal.remove_all-requires
remove_all-requires c =
    only_some_added (accesses_of c.args.footprint.now) c.in-Err.ensures.some_on_error.0 c.args.serial c.args.self.now
    c.add_each.new.self c.requires c.in-Err.ensures.some_on_error.1

pub returns-in-Err-clause-unchanged_on_error : goal.returns-in-Err-clause-unchanged_on_error
returns-in-Err-clause-unchanged_on_error c =
    taken_out (accesses_of c.args.footprint.now) c.in-Err.ensures.some_on_error.0 c.args.serial c.args.self.now
    c.add_each.new.self c.remove_all.new.self c.requires c.in-Err.ensures.some_on_error.1 c.remove_all.ensures
