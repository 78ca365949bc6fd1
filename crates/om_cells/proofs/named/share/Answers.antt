use Rattle.std.proofs.Common.{sym}
use Rattle.om_cells.proofs.PlaceLemmas.{stays_of, name_found}
use Rattle.om_cells.proofs.named.share.Goals as goal

pub returns-in-Some-clause-stays : goal.returns-in-Some-clause-stays
returns-in-Some-clause-stays c =
    let es = c.args.places.now.entries in
    let n = c.args.name.now in
    let w = c.share.new.self in
    let old = c.in-Some.places.now in
    stays_of es (c.get_mut.follows.lender w).entries n old w (sym c.in-Some.ensures.value)
    ((c.get_mut.follows.holds w).3 (name_found es n old c.in-Some.ensures.value)).0 c.share.ensures.stays
