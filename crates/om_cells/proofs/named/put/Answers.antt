use Rattle.std.proofs.Common.{◌∙◌, sym, ap}
use Rattle.std.specs.Prelude.{is_some}
use Rattle.om_cells.proofs.PlaceLemmas.{puts_of, name_found, name_missing, value_known, value_in}
use Rattle.om_cells.proofs.named.put.Goals as goal

pub unreachable-requires : goal.unreachable-requires
unreachable-requires c = name_missing c.args.places.now.entries c.args.name.now c.get_mut.result
    c.get_mut.ensures.value c.in-None.is (value_known _ c.args.part.now c.requires)

pub put-requires : goal.put-requires
put-requires c = ap is_some (value_in _ c.in-Some.places.now c.args.part.now c.in-Some.ensures.value) ∙ c.requires

pub returns-clause-before : goal.returns-clause-before
returns-clause-before c = c.put.ensures.before
    ∙ value_in _ c.in-Some.places.now c.args.part.now c.in-Some.ensures.value

pub returns-clause-after : goal.returns-clause-after
returns-clause-after c =
    let es = c.args.places.now.entries in
    let n = c.args.name.now in
    let w = c.put.new.self in
    let old = c.in-Some.places.now in
    puts_of es (c.get_mut.follows.lender w).entries n c.args.part.now _ old w (sym c.in-Some.ensures.value)
    ((c.get_mut.follows.holds w).3 (name_found es n old c.in-Some.ensures.value)).0 c.put.ensures.after
