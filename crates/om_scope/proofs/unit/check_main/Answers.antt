use Rattle.std.proofs.Common.{refl}
use Rattle.om_parser_tree.specs.View.{view_item}
use Rattle.om_scope_rules.specs.Breaches.{is_main}
use Rattle.om_scope.proofs.Items.{list_any-map}
use Rattle.om_scope.proofs.unit.check_main.Goals as goal

pub returns-then-not-has_main : goal.returns-then-not-has_main
returns-then-not-has_main c =
    let found = rw c.as_slice.ensures.value at c.has_main.ensures in
    rw (list_any-map is_main view_item c.args.unit.now.items.items, ← found, c.if-not-has_main.true) refl

pub returns : goal.returns
returns c =
    let found = rw c.as_slice.ensures.value at c.has_main.ensures in
    rw (list_any-map is_main view_item c.args.unit.now.items.items, ← found, c.if-not-has_main.false) refl
