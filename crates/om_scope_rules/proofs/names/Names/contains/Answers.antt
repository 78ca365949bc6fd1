use Rattle.std.proofs.Common.{is_some, ap, ◌∙◌}
use Rattle.std.specs.List.{list_any}
use Rattle.std.specs.Str.{bytes_eq}
use Rattle.om_scope_rules.proofs.NamePlaces.{position-there}
use Rattle.om_scope_rules.proofs.Texts.{texts_of}
use Rattle.om_scope_rules.proofs.names.Names.contains.Goals as goal

pub returns : goal.returns
returns c =
    let name = c.args.name.now in
    c.contains_key.ensures
    ∙ ap is_some (c.self.invariant.1 name)
    ∙ position-there (bytes_eq name) (texts_of c.self.inside.names.items)
    ∙ ap (λ names. list_any (bytes_eq name) names) c.self.view_is
