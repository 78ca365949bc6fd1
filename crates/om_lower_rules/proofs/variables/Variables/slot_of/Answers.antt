use Rattle.std.proofs.Common.{ap, nat_eq, ◌∙◌}
use Rattle.std.specs.Option.{unwrap_or}
use Rattle.om_lower_rules.specs.Slots.{slot_of}
use Rattle.om_lower_rules.specs.Tables.{found_in}
use Rattle.om_lower_rules.proofs.Indexes.{found-number}
use Rattle.std.proofs.Common.{rules}
use Rattle.om_lower_rules.proofs.Places.{number_found, number_least}
use Rattle.om_lower_rules.proofs.variables.Variables.slot_of.Goals as goal

pub returns-clause-exact : goal.returns-clause-exact
returns-clause-exact c =
    let variable = c.args.variable in
    let seen = c.self.inside.seen.items in
    c.unwrap_or.ensures
    ∙ ap (λ found. unwrap_or found c.len.result)
    (c.copied-slot.ensures ∙ c.get.ensures.value ∙ c.self.invariant variable)
    ∙ ap (λ all. unwrap_or (found_in (nat_eq variable) seen) all) (c.len.ensures ∙ c.self.inside.seen.ok.0)
    ∙ found-number (nat_eq variable) seen
    ∙ ap (λ table. slot_of table variable) c.self.view_is

pub returns-clause-least : goal.returns-clause-least
returns-clause-least c = search (rules, number_found, number_least)
