use Rattle.std.proofs.Common.{map, ap, ◌∙◌}
use Rattle.om_parser_tree.specs.View.{view_item}
use Rattle.om_scope_tree.specs.ResolvedView as view
use Rattle.om_scope_rules.specs.Scopes.{file_scope}
use Rattle.om_scope.proofs.Wholes.{whole_made}
use Rattle.om_scope.proofs.unit.resolve_from.Goals as goal

pub returns : goal.returns
returns c = record {
  checked =
      let begins = c.in_ok-begin_file.ensures ∙ ap (λ scopes. file_scope scopes.definitions) c.requires.is_empty in
      rw begins at c.in_ok-resolve_each.ensures.checked;
  resolved =
      let found = c.in_ok-resolve_each.ensures in
      let begins = c.in_ok-begin_file.ensures ∙ ap (λ scopes. file_scope scopes.definitions) c.requires.is_empty in
      rw c.of.ensures
      (whole_made (map view_item c.args.items.now) _ _ _ _ _ begins c.new-globals.ensures.items
      (ap (map view.function) c.new-functions.ensures.items) found.declared found.defined);
}
