use Rattle.std.proofs.Common.{sym}
use Rattle.std.proofs.lemmas.Result.{on_ok_weaker, on_err_weaker}
use Rattle.om_cells.proofs.PlaceLemmas.{puts_of, stays_of, name_found, name_missing}
use Rattle.om_cells.proofs.named.enter_known.Goals as goal

pub unreachable-requires : goal.unreachable-requires
unreachable-requires c = name_missing c.args.places.now.entries c.args.name.now c.get_mut.result
    c.get_mut.ensures.value c.in-None.is c.requires

pub returns-clause-entered : goal.returns-clause-entered
returns-clause-entered c =
    let es = c.args.places.now.entries in
    let n = c.args.name.now in
    let w = c.enter.new.self in
    let old = c.in-Some.places.now in
    on_ok_weaker c.enter.result
    (puts_of es (c.get_mut.follows.lender w).entries n c.args.part _ old w (sym c.in-Some.ensures.value)
    ((c.get_mut.follows.holds w).3 (name_found es n old c.in-Some.ensures.value)).0)
    c.enter.ensures.entered

pub returns-clause-unchanged_on_error : goal.returns-clause-unchanged_on_error
returns-clause-unchanged_on_error c =
    let es = c.args.places.now.entries in
    let n = c.args.name.now in
    let w = c.enter.new.self in
    let old = c.in-Some.places.now in
    on_err_weaker c.enter.result
    (stays_of es (c.get_mut.follows.lender w).entries n old w (sym c.in-Some.ensures.value)
    ((c.get_mut.follows.holds w).3 (name_found es n old c.in-Some.ensures.value)).0)
    c.enter.ensures.unchanged_on_error
