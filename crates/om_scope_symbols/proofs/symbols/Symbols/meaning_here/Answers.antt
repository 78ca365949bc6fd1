use Rattle.std.proofs.Common.{sym, ap, ◌∙◌}
use Rattle.om_scope_rules.specs.Scopes.{meaning_here}
use Rattle.om_scope_symbols.specs.Sightings.{meaning_at, scopes_of}
use Rattle.om_scope_symbols.specs.Stacks.{innermost_of}
use Rattle.om_scope_symbols.proofs.Lookups.{length-scopes, meaning-innermost_scope}
use Rattle.om_scope_symbols.proofs.symbols.Symbols.meaning_here.Goals as goal

pub returns : goal.returns
returns c =
    let fields = c.self.inside in
    let name = c.args.name.now in
    c.meaning_at.ensures
    ∙ ap (λ seen. meaning_at seen c.len.result) (c.innermost.ensures ∙ ap innermost_of (c.self.invariant.2 name))
    ∙ ap (meaning_at _) (c.len.ensures ∙ fields.outer.ok.0 ∙ sym (length-scopes fields.outer.items))
    ∙ meaning-innermost_scope fields.inner (scopes_of fields.outer.items) name
    ∙ ap (λ scopes. meaning_here scopes name) c.self.view_is
