use Rattle.std.proofs.Common.{sym}
use Rattle.om_cells.proofs.SlotLemmas.{same_in, slot_found}
use Rattle.om_cells.proofs.slots.share.Goals as goal

pub returns-in-Some-clause-stays : goal.returns-in-Some-clause-stays
returns-in-Some-clause-stays c =
    let es = c.args.slots.now.entries in
    let slot = c.args.spot.now.0 in
    let old = c.in-Some.place.now in
    let w = c.share.new.self in
    same_in slot old w es (c.get_mut.follows.lender w).entries (sym c.in-Some.ensures.value) c.share.ensures.stays
    ((c.get_mut.follows.holds w).3 (slot_found es slot old c.in-Some.ensures.value)).0
