use Rattle.std.proofs.Common.{◌∙◌, ap, subst}
use Rattle.std.specs.Prelude.{Some, is_some}
use Rattle.om_cells.specs.Places.{PutsAt, value_at}
use Rattle.om_cells.proofs.PlaceLemmas.{part_found, part_missing}
use Rattle.om_cells.proofs.places.Places.put.Goals as goal

pub unreachable-requires : goal.unreachable-requires
unreachable-requires c = part_missing c.self.inside.places.entries c.args.part.now c.get_mut.result
    c.get_mut.ensures.value c.in-None.is
    (ap (λ es. is_some (value_at es c.args.part.now)) c.self.view_is ∙ c.requires)

pub returns-clause-before : goal.returns-clause-before
returns-clause-before c = ap Some c.put.ensures.before ∙ c.in-Some.ensures.value
    ∙ ap (λ es. value_at es c.args.part.now) c.self.view_is

pub returns-clause-after : goal.returns-clause-after
returns-clause-after c =
    let es = c.self.inside.places.entries in
    let w = c.put.new.self in
    let part = c.args.part.now in
    subst (λ old. PutsAt part (Some c.args.value) old (c.get_mut.follows.lender w).entries) c.self.view_is
    (subst (λ v. PutsAt part (Some v) es (c.get_mut.follows.lender w).entries) c.put.ensures.after
    ((c.get_mut.follows.holds w).3 (part_found es part c.in-Some.place.now c.in-Some.ensures.value)).0)
