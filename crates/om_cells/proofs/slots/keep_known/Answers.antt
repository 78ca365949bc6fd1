use Rattle.std.proofs.Common.{sym}
use Rattle.std.proofs.lemmas.Result.{on_ok_weaker}
use Rattle.om_cells.proofs.SlotLemmas.{grows_in, keeps_first, known_there, slot_found}
use Rattle.om_cells.proofs.slots.keep_known.Goals as goal

pub returns-clause-grown : goal.returns-clause-grown
returns-clause-grown c =
    let es = c.args.slots.now.entries in
    let slot = c.args.cells.now.slot in
    let old = c.in-Some.place.now in
    let w = c.keep.new.self in
    grows_in slot old w es (c.get_mut.follows.lender w).entries (sym c.in-Some.ensures.value) c.keep.ensures.grown
    ((c.get_mut.follows.holds w).3 (slot_found es slot old c.in-Some.ensures.value)).0

pub returns-clause-kept : goal.returns-clause-kept
returns-clause-kept c =
    let es = c.args.slots.now.entries in
    let slot = c.args.cells.now.slot in
    let old = c.in-Some.place.now in
    let w = c.keep.new.self in
    on_ok_weaker c.keep.result
    (λ enough. keeps_first c.args.cells.now w (c.get_mut.follows.lender w).entries
    (known_there slot w es (c.get_mut.follows.lender w).entries
    ((c.get_mut.follows.holds w).3 (slot_found es slot old c.in-Some.ensures.value)).0) enough)
    c.keep.ensures.enough
