use Rattle.std.proofs.Common.{subst, sym, ap, ◌∙◌}
use Rattle.om_scope_symbols.specs.Nesting.{AreNested, unlisted_since}
use Rattle.om_scope_rules.specs.Sharing.{is_unlisted}
use Rattle.om_scope_symbols.specs.Sightings.{depth_of, scopes_of}
use Rattle.om_scope_symbols.specs.Stacks.{innermost_of}
use Rattle.om_scope_symbols.proofs.Lookups.{length-scopes, unlisted-at}
use Rattle.om_scope_symbols.proofs.symbols.Symbols.is_unlisted.Goals as goal

pub returns : goal.returns
returns c =
    let fields = c.self.inside in
    let name = c.args.name.now in
    let constructs = fields.nesting in
    let depth = c.depth_of-depth.ensures ∙ ap (λ seen. depth_of seen) (c.innermost.ensures ∙ ap innermost_of
    (c.self.invariant.2 name)) in
    c.is_unlisted_since.ensures
    ∙ ap (λ d. unlisted_since constructs d name) depth
    ∙ sym (unlisted-at fields.inner (scopes_of fields.outer.items) constructs name
    (subst (AreNested constructs) (sym (length-scopes fields.outer.items)) c.self.invariant.1))
    ∙ ap (λ scopes. is_unlisted scopes name) c.self.view_is
