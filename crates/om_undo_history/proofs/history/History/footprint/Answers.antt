-- The record with the serial has the footprint of the entry with it.
use Rattle.om_undo_touches.specs.Accesses.{accesses_of}
use Rattle.om_undo_history.proofs.Standing.{no_footprint, some_footprint}
use Rattle.om_undo_history.proofs.history.History.footprint.Goals as goal

pub returns-in-Some : goal.returns-in-Some
returns-in-Some c = λ r held.
    some_footprint r c.args.self.now c.args.serial c.in-Some.made.now (accesses_of c.footprint.result.now) held
    c.in-Some.ensures.found c.footprint.ensures

pub returns-in-None : goal.returns-in-None
returns-in-None c = λ r held. no_footprint r c.args.self.now c.args.serial held c.in-None.ensures.none
