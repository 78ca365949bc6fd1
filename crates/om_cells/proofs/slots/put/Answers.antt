use Rattle.std.proofs.Common.{◌∙◌, sym, ap, subst}
use Rattle.std.specs.Prelude.{is_some}
use Rattle.om_cells.specs.Slots.{Replaces, value_among}
use Rattle.om_cells.proofs.SlotLemmas.{puts_in, some_within, slot_found}
use Rattle.om_cells.proofs.slots.put.Goals as goal

pub returns-clause-after : goal.returns-clause-after
returns-clause-after c =
    let es = c.args.slots.now.entries in
    let slot = c.args.slot.now in
    let i = c.args.index in
    let old = c.in-Some.place.now in
    let w = c.put.new.self in
    puts_in slot old es (c.get_mut.follows.lender w).entries i c.args.value (sym c.in-Some.ensures.value)
    (some_within old i (ap (λ o. is_some (value_among o i)) c.in-Some.ensures.value ∙ c.requires))
    (subst (λ x. Replaces slot x es (c.get_mut.follows.lender w).entries) c.put.ensures.after
    ((c.get_mut.follows.holds w).3 (slot_found es slot old c.in-Some.ensures.value)).0)
