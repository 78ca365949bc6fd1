use Rattle.std.proofs.Common.{[], ◌∷◌, ◌≡◌, None, is_some, length, subst, sym, ap, ◌∙◌}
use Rattle.std.specs.Map.{lookup}
use Rattle.std.specs.Str.{bytes_eq}
use Rattle.om_scope_symbols.specs.Nesting.{enclosing_of}
use Rattle.om_scope_rules.specs.Scopes.{with_bindings}
use Rattle.om_scope_symbols.specs.Sightings.{Shows, scopes_of}
use Rattle.om_scope_symbols.proofs.Lookups.{length-scopes}
use Rattle.om_scope_symbols.proofs.Seen.{shows-push, shows-undone}
use Rattle.om_scope_symbols.proofs.Tables.{none-is_some}
use Rattle.om_scope_symbols.proofs.symbols.Symbols.declare.Goals as goal

pub put-requires : goal.put-requires
put-requires c = record {
  is_new = ap (λ scopes. is_some (lookup (bytes_eq c.args.name.now) scopes.inner)) c.self.view_is ∙ c.requires.is_new;
}

-- nothing has the name yet
undeclared : (c : goal.In-Ok) → lookup (bytes_eq c.args.name.now) c.self.inside.inner ≡ None
undeclared c = none-is_some (lookup (bytes_eq c.args.name.now) c.self.inside.inner)
    (ap (λ scopes. is_some (lookup (bytes_eq c.args.name.now) scopes.inner)) c.self.view_is ∙ c.requires.is_new)

pub invariant_of-self-in-Ok : goal.invariant_of-self-in-Ok
invariant_of-self-in-Ok c =
    let fields = c.self.inside in
    let outer = scopes_of fields.outer.items in
    let depth : c.len-depth.result ≡ length outer = c.len-depth.ensures ∙ fields.outer.ok.0
    ∙ sym (length-scopes fields.outer.items) in (
      c.self.invariant.0,
      c.self.invariant.1,
      subst (λ scope. Shows c.note.new.self (scope ∷ outer)) (sym c.in-Ok.ensures.put)
          (shows-push fields.sightings c.note.new.self fields.inner outer c.args.name.now c.args.meaning
          c.len-depth.result (undeclared c) depth c.in_ok-note.ensures.noted c.self.invariant.2),
    )

pub invariant_of-self-in-Err : goal.invariant_of-self-in-Err
invariant_of-self-in-Err c =
    let fields = c.self.inside in
    let outer = scopes_of fields.outer.items in (
      c.self.invariant.0,
      c.self.invariant.1,
      subst (λ scope. Shows c.forget.new.self (scope ∷ outer)) (sym c.in-Err.ensures.unchanged_on_error)
          (shows-undone fields.sightings c.note.new.self c.forget.new.self (fields.inner ∷ outer)
          c.args.name.now (record { depth = c.len-depth.result; meaning = c.args.meaning }) c.in_ok-note.ensures.noted
          c.forget.ensures c.self.invariant.2),
    )

pub returns-in-Ok : goal.returns-in-Ok
returns-in-Ok c =
    let fields = c.self.inside in
    ap (λ inner. record {
      inner = inner;
      outer = enclosing_of (scopes_of fields.outer.items) fields.nesting;
      globals = fields.globals;
      cells = fields.cells;
      definitions = fields.definitions;
      defined = fields.defined;
    }) c.in-Ok.ensures.put
    ∙ ap (λ scopes. with_bindings scopes ((c.args.name.now, c.args.meaning) ∷ [])) c.self.view_is
