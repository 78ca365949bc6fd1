use Rattle.std.proofs.Common.{◌∷◌, ◌<◌, ◌≤◌, ◌&&◌, subst, sym, ap, ◌∙◌}
use Rattle.std.proofs.lemmas.Bool.{le-ltb, lt-ltb}
use Rattle.om_scope_symbols.specs.Nesting.{AreNested, copied_since}
use Rattle.om_scope_rules.specs.Sharing.{is_copied}
use Rattle.om_scope_symbols.specs.Sightings.{depth_of, scopes_of, sightings}
use Rattle.om_scope_symbols.specs.Stacks.{innermost_of}
use Rattle.om_scope_symbols.proofs.Lookups.{copied-at, length-scopes}
use Rattle.om_scope_symbols.proofs.symbols.Symbols.is_copied.Goals as goal

pub returns-then-depth-gt0 : goal.returns-then-depth-gt0
returns-then-depth-gt0 c =
    let fields = c.self.inside in
    let name = c.args.name.now in
    let constructs = fields.nesting in
    let scopes = fields.inner ∷ scopes_of fields.outer.items in
    let depth = c.depth_of-depth.ensures ∙ ap (λ seen. depth_of seen) (c.innermost.ensures ∙ ap innermost_of
    (c.self.invariant.2 name)) in
    c.is_copied_since.ensures
    ∙ ap (λ d. copied_since constructs d name) depth
    ∙ sym (ap (λ deep. deep && copied_since constructs (depth_of (innermost_of (sightings scopes name)))
    name) (lt-ltb 0 (depth_of (innermost_of (sightings scopes name)))
    (subst (λ d. 0 < d) depth c.if-depth-gt0.true)))
    ∙ sym (copied-at fields.inner (scopes_of fields.outer.items) constructs name
    (subst (AreNested constructs) (sym (length-scopes fields.outer.items)) c.self.invariant.1))
    ∙ ap (λ scopes. is_copied scopes name) c.self.view_is

pub returns-else-depth-gt0 : goal.returns-else-depth-gt0
returns-else-depth-gt0 c =
    let fields = c.self.inside in
    let name = c.args.name.now in
    let constructs = fields.nesting in
    let scopes = fields.inner ∷ scopes_of fields.outer.items in
    let depth = c.depth_of-depth.ensures ∙ ap (λ seen. depth_of seen) (c.innermost.ensures ∙ ap innermost_of
    (c.self.invariant.2 name)) in
    le-ltb 0 c.depth_of-depth.result c.if-depth-gt0.false
    ∙ sym (ap (λ deep. deep && copied_since constructs (depth_of (innermost_of (sightings scopes name)))
    name) (le-ltb 0 (depth_of (innermost_of (sightings scopes name)))
    (subst (λ d. d ≤ 0) depth c.if-depth-gt0.false)))
    ∙ sym (copied-at fields.inner (scopes_of fields.outer.items) constructs name
    (subst (AreNested constructs) (sym (length-scopes fields.outer.items)) c.self.invariant.1))
    ∙ ap (λ scopes. is_copied scopes name) c.self.view_is
