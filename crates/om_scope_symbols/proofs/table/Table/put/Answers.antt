use Rattle.std.proofs.Common.{[], ◌∷◌, ◌++◌, is_some, sym, ap, subst, ◌∙◌}
use Rattle.std.specs.List.{IsDistinct}
use Rattle.std.specs.Map.{keys_of, lookup}
use Rattle.std.specs.Str.{bytes_eq}
use Rattle.om_scope_rules.specs.Scopes.{same_name, scope_of}
use Rattle.om_scope_symbols.proofs.Tables.{once-push, scope_of-push}
use Rattle.om_scope_symbols.proofs.table.Table.put.Goals as goal

pub invariant_of-self-2 : goal.invariant_of-self-2
invariant_of-self-2 c =
    let old = c.self.inside.bindings.items in
    let key = c.in_ok-key.key in
    subst (λ bindings. IsDistinct same_name (keys_of bindings))
    (sym (c.push_reserved.ensures.items ∙ ap (λ l. l ++ (key, c.args.meaning) ∷ []) c.reserve.ensures.items))
    (once-push old key c.args.meaning c.self.invariant
    (ap (λ name. is_some (lookup (bytes_eq name) (scope_of old))) c.in_ok-key.ensures.items
    ∙ ap (λ scope. is_some (lookup (bytes_eq c.args.name.now) scope)) c.self.view_is ∙ c.requires.is_new))

pub returns-clause-put : goal.returns-clause-put
returns-clause-put c =
    let old = c.self.inside.bindings.items in
    let key = c.in_ok-key.key in
    ap scope_of (c.push_reserved.ensures.items ∙ ap (λ l. l ++ (key, c.args.meaning) ∷ []) c.reserve.ensures.items)
    ∙ scope_of-push old key c.args.meaning
    ∙ ap (λ name. scope_of old ++ (name, c.args.meaning) ∷ []) c.in_ok-key.ensures.items
    ∙ ap (λ scope. scope ++ (c.args.name.now, c.args.meaning) ∷ []) c.self.view_is
