use Rattle.std.proofs.Common.{◌∙◌, sym, ap, subst, None}
use Rattle.std.specs.Option.{option_copied_mut}
use Rattle.om_cells.specs.Named.{PutsOf}
use Rattle.om_cells.proofs.PlaceLemmas.{puts_of, name_found, none_of}
use Rattle.om_cells.proofs.named.remove.Goals as goal

pub returns-in-Some : goal.returns-in-Some
returns-in-Some c =
    let es = c.args.places.now.entries in
    let n = c.args.name.now in
    let w = c.remove.new.self in
    let old = c.in-Some.places.now in
    puts_of es (c.get_mut.follows.lender w).entries n c.args.part.now _ old w (sym c.in-Some.ensures.value)
    ((c.get_mut.follows.holds w).3 (name_found es n old c.in-Some.ensures.value)).0 c.remove.ensures

pub returns-in-None : goal.returns-in-None
returns-in-None c =
    subst (λ m. PutsOf c.args.name.now c.args.part.now None c.args.places.now.entries m.entries)
    (sym c.get_mut.follows.holds-at-none)
    (none_of c.args.places.now.entries c.args.name.now c.args.part.now
    (sym c.get_mut.ensures.value ∙ ap option_copied_mut c.in-None.is))
