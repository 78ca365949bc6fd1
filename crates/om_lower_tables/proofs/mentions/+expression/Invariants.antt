use Rattle.std.proofs.Common.{◌≡◌, length, map, drop}
use Rattle.om_scope_tree.specs.ResolvedTree as trees
use Rattle.om_scope_tree.specs.ResolvedView as view
use Rattle.om_scope_tree.specs.Weights.{values_weight}
use Rattle.om_lower_rules.specs.Mentions.{values_formats}
use Rattle.om_lower_tables.specs.Noted.{noted}
use Rattle.om_lower_tables.specs.Room.{IsRoomFor}
use Rattle.om_lower_tables.proofs.mentions.+expression.Given as goal

abbrev pub invariant-note_values-loop-value : goal.invariant-note_values-loop-value
invariant-note_values-loop-value l =
    let left = trees.values (map view.expression (drop l.value-index l.values)) in
    let all = trees.values (map view.expression l.values) in
    (noted l.formats (values_formats left) ≡ noted l.fn.formats (values_formats all))
    × IsRoomFor (values_weight left) (length l.formats)
