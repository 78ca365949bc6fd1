use Rattle.std.proofs.Common.{ap, arith, map, ◌∙◌}
use Rattle.om_scope_tree.specs.ResolvedView as view
use Rattle.om_lower_rules.specs.Slots.{by_slots, first_copies}
use Rattle.om_lower_rules.specs.BodyTables.{numbered_by}
use Rattle.om_lower_rules.specs.Copies.{first_copies_of}
use Rattle.om_lower.proofs.Regions.{count_few, counted, given_loaded}
use Rattle.om_lower.proofs.region.load_given.Goals as goal

pub returns-clause-few : goal.returns-clause-few
returns-clause-few c =
    count_few c.args.variables.now
    (first_copies (map view.clause c.args.region.now.clauses.now) c.args.region.now.captures.now) _
    c.requires.few
    (counted c.as_slice.result.now _ _ (ap first_copies_of c.as_slice.ensures.value ∙ c.in_ok-copies.ensures)
    (omega (arith, c.len.ensures, c.as_slice.ensures.len, c.in_ok-copies.copies.ok.0)))

pub returns-clause-count : goal.returns-clause-count
returns-clause-count c =
    counted c.as_slice.result.now _ _
    (ap first_copies_of c.as_slice.ensures.value ∙ c.in_ok-copies.ensures
    ∙ ap (λ slots. by_slots slots (first_copies (map view.clause c.args.region.now.clauses.now)
    c.args.region.now.captures.now)) c.requires.variables)
    (omega (arith, c.len.ensures, c.as_slice.ensures.len, c.in_ok-copies.copies.ok.0))

pub returns-clause-emitted : goal.returns-clause-emitted
returns-clause-emitted c =
    given_loaded (numbered_by c.args.tables.now) c.args.region.now.at.line _ _ _ _
    (ap first_copies_of c.as_slice.ensures.value ∙ c.in_ok-copies.ensures
    ∙ ap (λ slots. by_slots slots (first_copies (map view.clause c.args.region.now.clauses.now)
    c.args.region.now.captures.now)) c.requires.variables) c.in_ok-load_originals.ensures
