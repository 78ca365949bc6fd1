use Rattle.std.proofs.Common.{sym, ap, ◌∙◌}
use Rattle.om_scope_rules.specs.Scopes.{meaning_of}
use Rattle.om_scope_symbols.specs.Sightings.{meaning_of_sighting, scopes_of}
use Rattle.om_scope_symbols.specs.Stacks.{innermost_of}
use Rattle.om_scope_symbols.proofs.Lookups.{meaning-here}
use Rattle.om_scope_symbols.proofs.symbols.Symbols.meaning_of.Goals as goal

pub returns-in_err-sighting : goal.returns-in_err-sighting
returns-in_err-sighting c =
    let fields = c.self.inside in
    let found = c.innermost.ensures ∙ ap innermost_of (c.self.invariant.2 c.args.name.now) in
    c.from_residual.ensures
    ∙ ap meaning_of_sighting (sym c.in_err-sighting.was ∙ found)
    ∙ sym (meaning-here fields.inner (scopes_of fields.outer.items) fields.nesting c.args.name.now)
    ∙ ap (λ scopes. meaning_of scopes c.args.name.now) c.self.view_is

pub returns : goal.returns
returns c =
    let fields = c.self.inside in
    let found = c.innermost.ensures ∙ ap innermost_of (c.self.invariant.2 c.args.name.now) in
    ap meaning_of_sighting (sym c.in_ok-sighting.was ∙ found)
    ∙ sym (meaning-here fields.inner (scopes_of fields.outer.items) fields.nesting c.args.name.now)
    ∙ ap (λ scopes. meaning_of scopes c.args.name.now) c.self.view_is
