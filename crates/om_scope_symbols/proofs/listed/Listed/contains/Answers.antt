use Rattle.std.proofs.Common.{◌||◌, sym, ap, ◌∙◌}
use Rattle.std.specs.List.{list_any}
use Rattle.std.specs.Str.{bytes_eq}
use Rattle.om_scope_rules.specs.DirectiveRules.{is_listed}
use Rattle.om_scope_rules.specs.Sharing.{declares}
use Rattle.om_scope_symbols.proofs.Tables.{keys-listed}
use Rattle.om_scope_symbols.proofs.listed.Listed.contains.Goals as goal

pub returns-else-contains : goal.returns-else-contains
returns-else-contains c =
    let name = c.args.name.now in
    let copies = c.self.inside.copies in
    c.contains-else-contains.ensures
    ∙ ap (list_any (bytes_eq name)) c.self.invariant
    ∙ keys-listed copies name
    ∙ sym (ap (λ shared. shared || declares copies name) (sym c.contains.ensures ∙ c.if-contains.false))
    ∙ ap (λ listed. is_listed listed name) c.self.view_is
