use Rattle.std.proofs.Common.{[], sym, ap, subst, ◌∙◌}
use Rattle.std.specs.List.{IsDistinct}
use Rattle.std.specs.Map.{keys_of}
use Rattle.om_scope_rules.specs.Scopes.{same_name, scope_of}
use Rattle.om_scope_symbols.proofs.Tables.{new-behind, none-is_some, once-front, scope_of-push}
use Rattle.om_scope_symbols.proofs.table.Table.pop.Goals as goal

pub invariant_of-self-2 : goal.invariant_of-self-2
invariant_of-self-2 c = once-front c.pop.new.self.items (c.in_ok-name.name, c.in_ok-name.field-0-1)
    (subst (λ bindings. IsDistinct same_name (keys_of bindings)) c.in_ok-name.ensures.items c.self.invariant)

pub returns-clause-last : goal.returns-clause-last
returns-clause-last c =
    let left = c.pop.new.self.items in
    let name = c.in_ok-name.name in
    let meaning = c.in_ok-name.field-0-1 in (
      meaning,
      sym c.self.view_is ∙ ap scope_of c.in_ok-name.ensures.items ∙ scope_of-push left name meaning,
      none-is_some _ (new-behind left [] name meaning
          (subst (λ bindings. IsDistinct same_name (keys_of bindings)) c.in_ok-name.ensures.items c.self.invariant)),
    )
