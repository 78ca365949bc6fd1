use Rattle.std.proofs.Common.{sym, ap, ◌∙◌}
use Rattle.std.specs.Option.{option_copied}
use Rattle.om_scope_symbols.specs.Stacks.{seen_in}
use Rattle.om_scope_symbols.proofs.Stacked.{seen-found, seen-none}
use Rattle.om_scope_symbols.proofs.stacks.Stacks.items.Goals as goal

pub returns-in-Some : goal.returns-in-Some
returns-in-Some over c =
    let name = c.args.name.now in
    c.as_slice.ensures.value
    ∙ sym (seen-found c.self.inside.names.entries name c.in-Some.seen.now
    (sym c.get.ensures.value ∙ ap option_copied c.in-Some.is))
    ∙ ap (λ table. seen_in table name) c.self.view_is

pub returns-in-None : goal.returns-in-None
returns-in-None over c =
    let name = c.args.name.now in
    sym (seen-none c.self.inside.names.entries name (sym c.get.ensures.value ∙ ap option_copied c.in-None.is))
    ∙ ap (λ table. seen_in table name) c.self.view_is
